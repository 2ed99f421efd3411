-- What the triples of one entity give a pattern.
use Rattle.std.specs.Prelude.{◌≡◌, ℕ, ◌<◌, ◌⊎◌, Bool, true, false, cond, ◌&&◌, ◌||◌, List, [], ◌∷◌, map, Some, refl}
use Rattle.std.proofs.Common.{sym, ap, ap₂, ◌∙◌, subst, eqb, inl, inr}
use Rattle.std.proofs.lemmas.Bool.{eq-eqb, and_parts, or_left, or_right, cases_Bool, both_ways}
use Rattle.std.specs.List.{list_any, flat_map, filter, AllByRecursion, IsDistinct}
use Rattle.bags.specs.Bag.{total, SameBag}
use Rattle.bags.specs.BagLaws.{total-same, total-each, total-flat_map, total-filter, total-swap, same-refl, same-flat_map, each-map, each-flat_map, each-weaker, each-any, each-filter}
use Rattle.rdf_meaning.specs.Terms.{RdfTerm, RdfTriple, same_term, same_triple}
use Rattle.rdf_meaning.specs.TermLaws.{same_term-is, same_term_equiv}
use Rattle.query_meaning.specs.declared.pattern.Slot.{Slot}
use Rattle.query_meaning.specs.declared.pattern.Slot.TheVariants.{Var, Const}
use Rattle.query_meaning.specs.declared.pattern.Pattern.{Pattern}
use Rattle.query_eval_meaning.specs.Mapping.{Mapping, width, agree, compatible, merge}
use Rattle.query_eval_meaning.specs.Leaf.{terms_of, is_variable, in_pattern, is_term, slot_is, instance_is, leaf, bound, matches}
use Rattle.query_eval_meaning.specs.Eval.{join, or_alone, found, left_join}
use Rattle.rdf_meaning.specs.declared.side.SideName.{SideName}
use Rattle.rdf_meaning.specs.declared.side.SideName.TheVariants.{Direct, Reverse}
use Rattle.query_eval_meaning.specs.Width.{pattern_in_width}
use Rattle.query_plan_meaning.specs.Stars.{entity_of}
use Rattle.query_algebra_laws.specs.MappingLaws.{agreed}
use Rattle.query_algebra_laws.specs.Assignments.{terms-apart}
use Rattle.query_algebra_laws.specs.OneLeaf.{leaf_one, pattern_below, total-one, total-matches, each-stands, Stands, is_term-some}
use Rattle.query_algebra_laws.specs.Joins.{total-joined, total-or_alone, total-found}

-- the place of a pattern that is the entity
abbrev pub entity_slot : SideName → Pattern → Slot
entity_slot Direct p = p.s
entity_slot Reverse p = p.o

-- what the entity's triples give a pattern
abbrev pub pattern_sols : List RdfTriple → SideName → RdfTerm → Pattern → List Mapping
pattern_sols g side e p = flat_map (matches p) (filter (λ t. same_term (entity_of side t) e) g)

-- the mapping is of this entity
abbrev pub Tied : Slot → RdfTerm → Mapping → Type 0
Tied (Var v) e m = m v ≡ Some e
Tied (Const c) e m = same_term c e ≡ true

entity_in : (side : SideName) (p : Pattern) (v : ℕ) → is_variable v (entity_slot side p) ≡ true → in_pattern v p ≡ true
entity_in Direct p v e = or_left (is_variable v p.s) (is_variable v p.p || is_variable v p.o) e
entity_in Reverse p v e = or_right (is_variable v p.s) (is_variable v p.p || is_variable v p.o) (or_right (is_variable v p.p) (is_variable v p.o) e)

entity_is : (side : SideName) (m : Mapping) (p : Pattern) (t : RdfTriple) → instance_is m p t ≡ true → slot_is m (entity_slot side p) (entity_of side t) ≡ true
entity_is Direct m p t i = (and_parts (slot_is m p.s t.s) (slot_is m p.p t.p && slot_is m p.o t.o) i).0
entity_is Reverse m p t i = (and_parts (slot_is m p.p t.p) (slot_is m p.o t.o) (and_parts (slot_is m p.s t.s) (slot_is m p.p t.p && slot_is m p.o t.o) i).1).1

-- a triple that fits a tied mapping is of its entity
fits-entity : (side : SideName) (p : Pattern) (t : RdfTriple) (e : RdfTerm) (m : Mapping) → pattern_in_width p ≡ true → Tied (entity_slot side p) e m → instance_is (bound p t) p t ≡ true → compatible m (bound p t) ≡ true → same_term (entity_of side t) e ≡ true
fits-entity side p t e m below tied i c = at (entity_slot side p) refl
  where
    slot : slot_is (bound p t) (entity_slot side p) (entity_of side t) ≡ true
    slot = entity_is side (bound p t) p t i

    at : (x : Slot) → entity_slot side p ≡ x → same_term (entity_of side t) e ≡ true
    at (Var v) q =
        let l : v < width = pattern_below p below v (entity_in side p v (ap (is_variable v) q ∙ eq-eqb v v refl)) in
        let a : agree (m v) (bound p t v) ≡ true = agreed width m (bound p t) c v l in
        let x : m v ≡ Some e = subst (λ (x : Slot). Tied x e m) q tied in
        let s : is_term (bound p t v) (entity_of side t) ≡ true = subst (λ (x : Slot). slot_is (bound p t) x (entity_of side t) ≡ true) q slot in
        let y : bound p t v ≡ Some (entity_of side t) = is_term-some (bound p t v) (entity_of side t) s in
        let z : agree (Some e) (Some (entity_of side t)) ≡ true = rw (x, y) at a in
        same_term_equiv.symm (entity_of side t) e ∙ z
    at (Const k) q =
        let x : same_term k e ≡ true = subst (λ (x : Slot). Tied x e m) q tied in
        let y : same_term k (entity_of side t) ≡ true = subst (λ (x : Slot). slot_is (bound p t) x (entity_of side t) ≡ true) q slot in
        same_term_equiv.symm (entity_of side t) e ∙ subst (λ (u : RdfTerm). same_term u (entity_of side t) ≡ true) (same_term-is k e x) y

-- what fits a tied mapping is found among the entity's triples
pub term-of : (h : Mapping → ℕ) (side : SideName) (p : Pattern) (t : RdfTriple) (e : RdfTerm) (m : Mapping) → pattern_in_width p ≡ true → Tied (entity_slot side p) e m →
    total (λ b. cond (compatible m b) (h (merge m b)) 0) (matches p t) ≡ cond (same_term (entity_of side t) e) (total (λ b. cond (compatible m b) (h (merge m b)) 0) (matches p t)) 0
term-of h side p t e m below tied = go (cases_Bool (same_term (entity_of side t) e)) (cases_Bool (instance_is (bound p t) p t)) (cases_Bool (compatible m (bound p t)))
  where
    is : total (λ b. cond (compatible m b) (h (merge m b)) 0) (matches p t) ≡ cond (instance_is (bound p t) p t) (cond (compatible m (bound p t)) (h (merge m (bound p t))) 0) 0
    is = total-matches (λ b. cond (compatible m b) (h (merge m b)) 0) p t

    go : (same_term (entity_of side t) e ≡ true) ⊎ (same_term (entity_of side t) e ≡ false) → (instance_is (bound p t) p t ≡ true) ⊎ (instance_is (bound p t) p t ≡ false) → (compatible m (bound p t) ≡ true) ⊎ (compatible m (bound p t) ≡ false) →
        total (λ b. cond (compatible m b) (h (merge m b)) 0) (matches p t) ≡ cond (same_term (entity_of side t) e) (total (λ b. cond (compatible m b) (h (merge m b)) 0) (matches p t)) 0
    go (inl s) i c = rw s refl
    go (inr s) (inr i) c = rw s (is ∙ ap (λ b. cond b (cond (compatible m (bound p t)) (h (merge m (bound p t))) 0) 0) i)
    go (inr s) (inl i) (inr c) = rw s (is ∙ ap₂ (λ a b. cond a (cond b (h (merge m (bound p t))) 0) 0) i c)
    go (inr s) (inl i) (inl c) = absurd (both_ways _ s (fits-entity side p t e m below tied i c))

-- the sum over what fits m: the entity's triples are as good as all
pub fitting : (k : Mapping → ℕ) (g : List RdfTriple) (side : SideName) (p : Pattern) (e : RdfTerm) → IsDistinct same_triple g → pattern_in_width p ≡ true → (m : Mapping) → Tied (entity_slot side p) e m →
    total (λ b. cond (compatible m b) (k (merge m b)) 0) (pattern_sols g side e p) ≡ total (λ b. cond (compatible m b) (k (merge m b)) 0) (leaf (p ∷ []) g)
fitting k g side p e d below m tied =
    let H : Mapping → ℕ = λ b. cond (compatible m b) (k (merge m b)) 0 in
    total-flat_map H (matches p) (filter (λ (t : RdfTriple). same_term (entity_of side t) e) g)
    ∙ total-filter (λ t. total H (matches p t)) (λ (t : RdfTriple). same_term (entity_of side t) e) g
    ∙ total-same _ _ (λ t. sym (term-of k side p t e m below tied)) g
    ∙ sym (total-flat_map H (matches p) g)
    ∙ sym ((leaf_one p g d below).totals H)

pub join-arm : (g : List RdfTriple) (side : SideName) (p : Pattern) (e : RdfTerm) → IsDistinct same_triple g → pattern_in_width p ≡ true → (ms : List Mapping) → AllByRecursion (Tied (entity_slot side p) e) ms → SameBag (join ms (pattern_sols g side e p)) (join ms (leaf (p ∷ []) g))
join-arm g side p e d below ms tied = record {
  totals = λ h.
      total-joined h ms (pattern_sols g side e p)
      ∙ total-each _ _ (Tied (entity_slot side p) e) (λ m tm. fitting h g side p e d below m tm) ms tied
      ∙ sym (total-joined h ms (leaf (p ∷ []) g));
}

pub left-arm : (g : List RdfTriple) (side : SideName) (p : Pattern) (e : RdfTerm) → IsDistinct same_triple g → pattern_in_width p ≡ true → (ms : List Mapping) → AllByRecursion (Tied (entity_slot side p) e) ms →
    SameBag (left_join (λ m. true) ms (pattern_sols g side e p)) (left_join (λ m. true) ms (leaf (p ∷ []) g))
left-arm g side p e d below ms tied = record {
  totals = λ h.
      let part : List Mapping → Mapping → ℕ = λ bs m. cond (eqb (total (λ b. cond (compatible m b) 1 0) bs) 0) (h m) (total (λ b. cond (compatible m b) (h (merge m b)) 0) bs) in
      let parts : (bs : List Mapping) → total h (left_join (λ m. true) ms bs) ≡ total (part bs) ms =
      λ bs. total-flat_map h (λ m. or_alone m (found (λ k. true) bs m)) ms
      ∙ total-same _ _ (λ m. total-or_alone h m (found (λ k. true) bs m) ∙ ap₂ (λ a b. cond (eqb a 0) (h m) b) (total-found (λ n. 1) (λ k. true) bs m) (total-found h (λ k. true) bs m)) ms in
      parts (pattern_sols g side e p)
      ∙ total-each _ _ (Tied (entity_slot side p) e) (λ m t. ap₂ (λ a b. cond (eqb a 0) (h m) b) (fitting (λ n. 1) g side p e d below m t) (fitting h g side p e d below m t)) ms tied
      ∙ sym (parts (leaf (p ∷ []) g));
}

-- ---- what is tied stays so

pub merge-tied : (x : Slot) (e : RdfTerm) (m b : Mapping) → Tied x e m → Tied x e (merge m b)
merge-tied (Var v) e m b t = rw t refl
merge-tied (Const c) e m b t = t

pub join-tied : (x : Slot) (e : RdfTerm) (ms bs : List Mapping) → AllByRecursion (Tied x e) ms → AllByRecursion (Tied x e) (join ms bs)
join-tied x e ms bs tied =
    each-flat_map (Tied x e) (λ a. map (merge a) (filter (compatible a) bs)) ms
    (each-weaker (Tied x e) (λ a. AllByRecursion (Tied x e) (map (merge a) (filter (compatible a) bs)))
    (λ a t. each-map (Tied x e) (merge a) (filter (compatible a) bs) (each-any (λ b. Tied x e (merge a b)) (λ b. merge-tied x e a b t) (filter (compatible a) bs))) ms tied)

or_alone-tied : (x : Slot) (e : RdfTerm) (m : Mapping) (ms : List Mapping) → Tied x e m → AllByRecursion (Tied x e) ms → AllByRecursion (Tied x e) (or_alone m ms)
or_alone-tied x e m [] t all = (t, tt)
or_alone-tied x e m (n ∷ ns) t all = all

pub left-tied : (x : Slot) (e : RdfTerm) (ms bs : List Mapping) → AllByRecursion (Tied x e) ms → AllByRecursion (Tied x e) (left_join (λ m. true) ms bs)
left-tied x e ms bs tied =
    each-flat_map (Tied x e) (λ a. or_alone a (found (λ m. true) bs a)) ms
    (each-weaker (Tied x e) (λ a. AllByRecursion (Tied x e) (or_alone a (found (λ m. true) bs a)))
    (λ a t. or_alone-tied x e a (found (λ m. true) bs a) t (each-filter (Tied x e) (λ m. true) (map (merge a) (filter (compatible a) bs))
    (each-map (Tied x e) (merge a) (filter (compatible a) bs) (each-any (λ b. Tied x e (merge a b)) (λ b. merge-tied x e a b t) (filter (compatible a) bs))))) ms tied)

bound-tied : (side : SideName) (p : Pattern) (t : RdfTriple) (e : RdfTerm) → same_term (entity_of side t) e ≡ true → instance_is (bound p t) p t ≡ true → Tied (entity_slot side p) e (bound p t)
bound-tied side p t e s i = at (entity_slot side p) (entity_is side (bound p t) p t i)
  where
    at : (x : Slot) → slot_is (bound p t) x (entity_of side t) ≡ true → Tied x e (bound p t)
    at (Var v) h = is_term-some (bound p t v) (entity_of side t) h ∙ ap (λ (u : RdfTerm). Some u) (same_term-is (entity_of side t) e s)
    at (Const c) h = subst (λ (u : RdfTerm). same_term c u ≡ true) (same_term-is (entity_of side t) e s) h

matches-tied : (side : SideName) (p : Pattern) (t : RdfTriple) (e : RdfTerm) → same_term (entity_of side t) e ≡ true → AllByRecursion (Tied (entity_slot side p) e) (matches p t)
matches-tied side p t e s = go (cases_Bool (instance_is (bound p t) p t))
  where
    go : (instance_is (bound p t) p t ≡ true) ⊎ (instance_is (bound p t) p t ≡ false) → AllByRecursion (Tied (entity_slot side p) e) (matches p t)
    go (inl i) = rw i (bound-tied side p t e s i, tt)
    go (inr i) = rw i tt

pub each-passes : {X : Type 0} (p : X → Bool) (xs : List X) → AllByRecursion (λ x. p x ≡ true) (filter p xs)
each-passes p [] = tt
each-passes p (x ∷ xs) = go (cases_Bool (p x)) (each-passes p xs)
  where
    go : (p x ≡ true) ⊎ (p x ≡ false) → AllByRecursion (λ x. p x ≡ true) (filter p xs) → AllByRecursion (λ x. p x ≡ true) (filter p (x ∷ xs))
    go (inl e) r = rw e (e, r)
    go (inr e) r = rw e r

pub sols-tied : (g : List RdfTriple) (side : SideName) (p : Pattern) (e : RdfTerm) → AllByRecursion (Tied (entity_slot side p) e) (pattern_sols g side e p)
sols-tied g side p e = each-flat_map (Tied (entity_slot side p) e) (matches p) (filter (λ (t : RdfTriple). same_term (entity_of side t) e) g)
    (each-weaker (λ (t : RdfTriple). same_term (entity_of side t) e ≡ true) (λ t. AllByRecursion (Tied (entity_slot side p) e) (matches p t)) (λ t s. matches-tied side p t e s) (filter (λ (t : RdfTriple). same_term (entity_of side t) e) g) (each-passes (λ (t : RdfTriple). same_term (entity_of side t) e) g))

-- ---- all entities

entity_stands : (side : SideName) (ts : List RdfTerm) (t : RdfTriple) → Stands ts t → list_any (same_term (entity_of side t)) ts ≡ true
entity_stands Direct ts t s = s.s
entity_stands Reverse ts t s = s.o

-- over all entities, one pattern has all its triples
pub sols_of_all : (g : List RdfTriple) (side : SideName) (p : Pattern) → SameBag (flat_map (λ e. pattern_sols g side e p) (terms_of g)) (flat_map (matches p) g)
sols_of_all g side p = record {
  totals = λ h.
      let M : RdfTriple → ℕ = λ t. total h (matches p t) in
      let ts = terms_of g in
      total-flat_map h (λ e. pattern_sols g side e p) ts
      ∙ total-same _ _ (λ e. total-flat_map h (matches p) (filter (λ (t : RdfTriple). same_term (entity_of side t) e) g) ∙ total-filter M (λ (t : RdfTriple). same_term (entity_of side t) e) g) ts
      ∙ total-swap (λ e t. cond (same_term (entity_of side t) e) (M t) 0) ts g
      ∙ total-each _ _ (Stands ts) (λ t st. total-same _ _ (λ e. ap (λ b. cond b (M t) 0) (same_term_equiv.symm (entity_of side t) e)) ts ∙ total-one (entity_of side t) (M t) ts (terms-apart g) (entity_stands side ts t st)) g (each-stands g)
      ∙ sym (total-flat_map h (matches p) g);
}

-- a join of each, and then all together, is the join of all
pub join-flat_map : (acc : RdfTerm → List Mapping) (ts : List RdfTerm) (bs : List Mapping) → SameBag (flat_map (λ e. join (acc e) bs) ts) (join (flat_map acc ts) bs)
join-flat_map acc ts bs = record {
  totals = λ h.
      total-flat_map h (λ e. join (acc e) bs) ts
      ∙ total-same _ _ (λ e. total-joined h (acc e) bs) ts
      ∙ sym (total-joined h (flat_map acc ts) bs ∙ total-flat_map (λ a. total (λ b. cond (compatible a b) (h (merge a b)) 0) bs) acc ts);
}

pub left_join-flat_map : (acc : RdfTerm → List Mapping) (ts : List RdfTerm) (bs : List Mapping) → SameBag (flat_map (λ e. left_join (λ m. true) (acc e) bs) ts) (left_join (λ m. true) (flat_map acc ts) bs)
left_join-flat_map acc ts bs = record {
  totals = λ h.
      let F : Mapping → List Mapping = λ m. or_alone m (found (λ k. true) bs m) in
      total-flat_map h (λ e. left_join (λ m. true) (acc e) bs) ts
      ∙ total-same _ _ (λ e. total-flat_map h F (acc e)) ts
      ∙ sym (total-flat_map h F (flat_map acc ts) ∙ total-flat_map (λ m. total h (F m)) acc ts);
}

pub same-flat_map_at : {X Y : Type 0} (f h : X → List Y) → ((x : X) → SameBag (f x) (h x)) → (xs : List X) → SameBag (flat_map f xs) (flat_map h xs)
same-flat_map_at f h e xs = same-flat_map f h xs xs (same-refl xs) e
