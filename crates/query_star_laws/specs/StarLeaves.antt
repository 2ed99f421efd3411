-- A star is the leaf of its required arms' patterns, left-joined with each optional one in turn.
use Rattle.std.specs.Prelude.{◌≡◌, ℕ, zero, suc, ◌+◌, ◌⊎◌, Bool, true, false, cond, if◌then◌else◌, ◌&&◌, ◌==◌, List, [], ◌∷◌, ◌++◌, map, Some, None, refl}
use Rattle.std.proofs.Common.{sym, ap, ap₂, ◌∙◌, subst, arith, inl, inr}
use Rattle.std.proofs.Math.Path.{fun_ext}
use Rattle.std.proofs.lemmas.Bool.{eqb-true, and_parts, and_from, cases_Bool, both_ways}
use Rattle.std.specs.List.{list_all, flat_map, AllByRecursion, IsDistinct}
use Rattle.bags.specs.Bag.{total, SameBag}
use Rattle.bags.specs.BagLaws.{total-each, same-refl, same-sym, same-trans}
use Rattle.rdf_meaning.specs.Terms.{RdfTerm, RdfTriple, same_term, same_triple}
use Rattle.rdf_meaning.specs.TermLaws.{same_term-self}
use Rattle.query_meaning.specs.declared.pattern.Slot.{Slot}
use Rattle.query_meaning.specs.declared.pattern.Slot.TheVariants.{Var, Const}
use Rattle.query_meaning.specs.declared.pattern.Pattern.{Pattern}
use Rattle.query_eval_meaning.specs.Mapping.{Mapping, nothing, set, width, agree, agree_below, compatible, either, merge}
use Rattle.query_eval_meaning.specs.Leaf.{terms_of, leaf}
use Rattle.query_eval_meaning.specs.Eval.{join, left_join}
use Rattle.rdf_meaning.specs.declared.side.SideName.{SideName}
use Rattle.rdf_meaning.specs.declared.side.SideName.TheVariants.{Direct, Reverse}
use Rattle.query_eval_meaning.specs.Width.{pattern_in_width, slot_in_width}
use Rattle.query_plan_meaning.specs.declared.star.Arm.{Arm}
use Rattle.query_plan_meaning.specs.Stars.{arm_pattern, arm_sols, entity_sols, with_required, with_optional, both_sols, left_joins, arm_in_width}
use Rattle.query_algebra_laws.specs.MappingLaws.{set-same}
use Rattle.query_algebra_laws.specs.OneLeaf.{leaf_one}
use Rattle.query_algebra_laws.specs.Joins.{same-join, same-left_join, total-joined, join-nothing}
use Rattle.query_algebra_laws.specs.LeavesJoin.{leaf_append}
use Rattle.query_star_laws.specs.Entities.{entity_slot, pattern_sols, Tied, join-arm, left-arm, join-tied, left-tied, sols-tied, sols_of_all, join-flat_map, left_join-flat_map, same-flat_map_at}
use Rattle.std.proofs.lemmas.List.{append_assoc, append-nil}
use Rattle.rdf_meaning.specs.Terms.{is_empty}

-- ---- patterns in place of arms

abbrev pub required_of : List RdfTriple → SideName → RdfTerm → List Pattern → List Mapping → List Mapping
required_of g side e [] ms = ms
required_of g side e (p ∷ ps) ms = required_of g side e ps (join ms (pattern_sols g side e p))

abbrev pub optional_of : List RdfTriple → SideName → RdfTerm → List Pattern → List Mapping → List Mapping
optional_of g side e [] ms = ms
optional_of g side e (p ∷ ps) ms = optional_of g side e ps (left_join (λ m. true) ms (pattern_sols g side e p))

arms-required : (g : List RdfTriple) (side : SideName) (e : RdfTerm) (x : Slot) (arms : List Arm) (ms : List Mapping) → with_required g side e x arms ms ≡ required_of g side e (map (arm_pattern x side) arms) ms
arms-required g side e x [] ms = refl
arms-required g side e x (a ∷ arms) ms = arms-required g side e x arms (join ms (arm_sols g side e x a))

arms-optional : (g : List RdfTriple) (side : SideName) (e : RdfTerm) (x : Slot) (arms : List Arm) (ms : List Mapping) → with_optional g side e x arms ms ≡ optional_of g side e (map (arm_pattern x side) arms) ms
arms-optional g side e x [] ms = refl
arms-optional g side e x (a ∷ arms) ms = arms-optional g side e x arms (left_join (λ m. true) ms (arm_sols g side e x a))

-- what is asked of each pattern: the star's entity, and variables that there are
pub record IsArm (side : SideName) (x : Slot) (p : Pattern) : Type 0 where
  pub entity : entity_slot side p ≡ x
  pub below : pattern_in_width p ≡ true

arm_entity : (x : Slot) (side : SideName) (a : Arm) → entity_slot side (arm_pattern x side a) ≡ x
arm_entity x Direct a = refl
arm_entity x Reverse a = refl

pub arm_below : (x : Slot) (side : SideName) (a : Arm) → slot_in_width x ≡ true → arm_in_width a ≡ true → pattern_in_width (arm_pattern x side a) ≡ true
arm_below x Direct a h e = and_from (slot_in_width x) (slot_in_width a.pred && slot_in_width a.value) h e
arm_below x Reverse a h e =
    let k = and_parts (slot_in_width a.pred) (slot_in_width a.value) e in
    and_from (slot_in_width a.value) (slot_in_width a.pred && slot_in_width x) k.1 (and_from (slot_in_width a.pred) (slot_in_width x) k.0 h)

pub arms-are : (x : Slot) (side : SideName) (arms : List Arm) → slot_in_width x ≡ true → list_all arm_in_width arms ≡ true → AllByRecursion (IsArm side x) (map (arm_pattern x side) arms)
arms-are x side [] h e = tt
arms-are x side (a ∷ arms) h e =
    let k = and_parts (arm_in_width a) (list_all arm_in_width arms) e in
    (record { entity = arm_entity x side a; below = arm_below x side a h k.0 }, arms-are x side arms h k.1)

-- ---- the entity alone, and then its first arm

pub var-sols : (v : ℕ) (e : RdfTerm) → entity_sols (Var v) e ≡ set v (Some e) nothing ∷ []
var-sols v e = rw (set-same v (Some e) nothing, same_term-self e) refl

below-var : (v : ℕ) (e : RdfTerm) (b : Mapping) → b v ≡ Some e → (n : ℕ) → agree_below n (set v (Some e) nothing) b ≡ true
below-var v e b t zero = refl
below-var v e b t (suc n) = and_from (agree (set v (Some e) nothing n) (b n)) (agree_below n (set v (Some e) nothing) b) (at (cases_Bool (n == v))) (below-var v e b t n)
  where
    at : ((n == v) ≡ true) ⊎ ((n == v) ≡ false) → agree (if n == v then Some e else None) (b n) ≡ true
    at (inl h) = rw (h, eqb-true n v h, t) (same_term-self e)
    at (inr h) = rw h refl

merge-var : (v : ℕ) (e : RdfTerm) (b : Mapping) → b v ≡ Some e → merge (set v (Some e) nothing) b ≡ b
merge-var v e b t = fun_ext (λ w. at w (cases_Bool (w == v)))
  where
    at : (w : ℕ) → ((w == v) ≡ true) ⊎ ((w == v) ≡ false) → either (if w == v then Some e else None) (b w) ≡ b w
    at w (inl h) = rw h (sym t ∙ ap b (sym (eqb-true w v h)))
    at w (inr h) = rw h refl

none-tied : (c e : RdfTerm) (bs : List Mapping) → same_term c e ≡ false → AllByRecursion (Tied (Const c) e) bs → [] ≡ bs
none-tied c e [] f t = refl
none-tied c e (b ∷ bs) f t = absurd (both_ways (same_term c e) f t.0)

-- the entity alone adds nothing to what is of the entity
pub entity-first : (x : Slot) (e : RdfTerm) (bs : List Mapping) → AllByRecursion (Tied x e) bs → SameBag (join (entity_sols x e) bs) bs
entity-first (Var v) e bs tied = record {
  totals = λ h.
      ap (λ (ms : List Mapping). total h (join ms bs)) (var-sols v e)
      ∙ total-joined h (set v (Some e) nothing ∷ []) bs
      ∙ one (total (λ b. cond (compatible (set v (Some e) nothing) b) (h (merge (set v (Some e) nothing) b)) 0) bs)
      ∙ total-each _ _ (Tied (Var v) e) (λ b t. ap₂ (λ (c : Bool) (m : Mapping). cond c (h m) 0) (below-var v e b t width) (merge-var v e b t)) bs tied;
}
  where
    one : (n : ℕ) → n + 0 ≡ n
    one n = omega arith
entity-first (Const c) e bs tied = go (cases_Bool (same_term c e))
  where
    go : (same_term c e ≡ true) ⊎ (same_term c e ≡ false) → SameBag (join (entity_sols (Const c) e) bs) bs
    go (inl f) = rw f (join-nothing bs)
    go (inr f) = rw f (subst (λ (zs : List Mapping). SameBag [] zs) (none-tied c e bs f tied) (same-refl []))

-- ---- congruence

same-required : (g : List RdfTriple) (side : SideName) (e : RdfTerm) (ps : List Pattern) (ms ns : List Mapping) → SameBag ms ns → SameBag (required_of g side e ps ms) (required_of g side e ps ns)
same-required g side e [] ms ns s = s
same-required g side e (p ∷ ps) ms ns s = same-required g side e ps (join ms (pattern_sols g side e p)) (join ns (pattern_sols g side e p)) (same-join ms ns (pattern_sols g side e p) (pattern_sols g side e p) s (same-refl (pattern_sols g side e p)))

same-optional : (g : List RdfTriple) (side : SideName) (e : RdfTerm) (ps : List Pattern) (ms ns : List Mapping) → SameBag ms ns → SameBag (optional_of g side e ps ms) (optional_of g side e ps ns)
same-optional g side e [] ms ns s = s
same-optional g side e (p ∷ ps) ms ns s = same-optional g side e ps (left_join (λ m. true) ms (pattern_sols g side e p)) (left_join (λ m. true) ns (pattern_sols g side e p)) (same-left_join (λ m. true) ms ns (pattern_sols g side e p) (pattern_sols g side e p) s (same-refl (pattern_sols g side e p)))

-- ---- required arms

tied-at : (side : SideName) (x : Slot) (p : Pattern) (e : RdfTerm) (ms : List Mapping) → entity_slot side p ≡ x → AllByRecursion (Tied x e) ms → AllByRecursion (Tied (entity_slot side p) e) ms
tied-at side x p e ms q t = subst (λ (y : Slot). AllByRecursion (Tied y e) ms) (sym q) t

required-leaf : (g : List RdfTriple) (side : SideName) → IsDistinct same_triple g → (x : Slot) (ps done : List Pattern) → AllByRecursion (IsArm side x) ps → (acc : RdfTerm → List Mapping) → ((e : RdfTerm) → AllByRecursion (Tied x e) (acc e)) →
    SameBag (flat_map acc (terms_of g)) (leaf done g) → SameBag (flat_map (λ e. required_of g side e ps (acc e)) (terms_of g)) (leaf (done ++ ps) g)
required-leaf g side d x [] done arms acc tied s = subst (λ (ps : List Pattern). SameBag (flat_map acc (terms_of g)) (leaf ps g)) (sym (append-nil done)) s
required-leaf g side d x (p ∷ ps) done arms acc tied s =
    let a = arms.0 in
    let one : (e : RdfTerm) → SameBag (join (acc e) (pattern_sols g side e p)) (join (acc e) (leaf (p ∷ []) g)) =
    λ e. join-arm g side p e d a.below (acc e) (tied-at side x p e (acc e) a.entity (tied e)) in
    let step : SameBag (flat_map (λ e. join (acc e) (pattern_sols g side e p)) (terms_of g)) (leaf (done ++ p ∷ []) g) =
    same-trans (same-flat_map_at (λ e. join (acc e) (pattern_sols g side e p)) (λ e. join (acc e) (leaf (p ∷ []) g)) one (terms_of g))
    (same-trans (join-flat_map acc (terms_of g) (leaf (p ∷ []) g))
    (same-trans (same-join (flat_map acc (terms_of g)) (leaf done g) (leaf (p ∷ []) g) (leaf (p ∷ []) g) s (same-refl (leaf (p ∷ []) g)))
    (same-sym (leaf_append done (p ∷ []) g)))) in
    subst (λ (qs : List Pattern). SameBag (flat_map (λ e. required_of g side e ps (join (acc e) (pattern_sols g side e p))) (terms_of g)) (leaf qs g)) (append_assoc done (p ∷ []) ps)
    (required-leaf g side d x ps (done ++ p ∷ []) arms.1 (λ e. join (acc e) (pattern_sols g side e p)) (λ e. join-tied x e (acc e) (pattern_sols g side e p) (tied e)) step)

first-tied : (g : List RdfTriple) (side : SideName) (x : Slot) (p : Pattern) → entity_slot side p ≡ x → (e : RdfTerm) → AllByRecursion (Tied x e) (pattern_sols g side e p)
first-tied g side x p q e = subst (λ (y : Slot). AllByRecursion (Tied y e) (pattern_sols g side e p)) q (sols-tied g side p e)

-- the solutions of an entity with its required arms
abbrev pub of_entity : List RdfTriple → SideName → Slot → List Pattern → RdfTerm → List Mapping
of_entity g side x ps e = required_of g side e ps (entity_sols x e)

pub entities-leaf : (g : List RdfTriple) (side : SideName) → IsDistinct same_triple g → (x : Slot) (p : Pattern) (ps : List Pattern) → AllByRecursion (IsArm side x) (p ∷ ps) → SameBag (flat_map (of_entity g side x (p ∷ ps)) (terms_of g)) (leaf (p ∷ ps) g)
entities-leaf g side d x p ps arms =
    same-trans (same-flat_map_at (of_entity g side x (p ∷ ps)) (λ e. required_of g side e ps (pattern_sols g side e p))
    (λ e. same-required g side e ps (join (entity_sols x e) (pattern_sols g side e p)) (pattern_sols g side e p) (entity-first x e (pattern_sols g side e p) (first-tied g side x p arms.0.entity e))) (terms_of g))
    (required-leaf g side d x ps (p ∷ []) arms.1 (λ e. pattern_sols g side e p) (first-tied g side x p arms.0.entity)
    (same-trans (sols_of_all g side p) (same-sym (leaf_one p g d arms.0.below))))

-- ---- optional arms

entity-tied : (x : Slot) (e : RdfTerm) → AllByRecursion (Tied x e) (entity_sols x e)
entity-tied (Var v) e = subst (λ (ms : List Mapping). AllByRecursion (Tied (Var v) e) ms) (sym (var-sols v e)) (set-same v (Some e) nothing, tt)
entity-tied (Const c) e = go (cases_Bool (same_term c e))
  where
    go : (same_term c e ≡ true) ⊎ (same_term c e ≡ false) → AllByRecursion (Tied (Const c) e) (entity_sols (Const c) e)
    go (inl f) = rw f (f, tt)
    go (inr f) = rw f tt

required-tied : (g : List RdfTriple) (side : SideName) (x : Slot) (e : RdfTerm) (ps : List Pattern) (ms : List Mapping) → AllByRecursion (Tied x e) ms → AllByRecursion (Tied x e) (required_of g side e ps ms)
required-tied g side x e [] ms t = t
required-tied g side x e (p ∷ ps) ms t = required-tied g side x e ps (join ms (pattern_sols g side e p)) (join-tied x e ms (pattern_sols g side e p) t)

optional-joins : (g : List RdfTriple) (side : SideName) → IsDistinct same_triple g → (x : Slot) (ps : List Pattern) → AllByRecursion (IsArm side x) ps → (acc : RdfTerm → List Mapping) (ms : List Mapping) → ((e : RdfTerm) → AllByRecursion (Tied x e) (acc e)) →
    SameBag (flat_map acc (terms_of g)) ms → SameBag (flat_map (λ e. optional_of g side e ps (acc e)) (terms_of g)) (left_joins g ms ps)
optional-joins g side d x [] arms acc ms tied s = s
optional-joins g side d x (p ∷ ps) arms acc ms tied s =
    let a = arms.0 in
    let one : (e : RdfTerm) → SameBag (left_join (λ m. true) (acc e) (pattern_sols g side e p)) (left_join (λ m. true) (acc e) (leaf (p ∷ []) g)) =
    λ e. left-arm g side p e d a.below (acc e) (tied-at side x p e (acc e) a.entity (tied e)) in
    optional-joins g side d x ps arms.1 (λ e. left_join (λ m. true) (acc e) (pattern_sols g side e p)) (left_join (λ m. true) ms (leaf (p ∷ []) g)) (λ e. left-tied x e (acc e) (pattern_sols g side e p) (tied e))
    (same-trans (same-flat_map_at (λ e. left_join (λ m. true) (acc e) (pattern_sols g side e p)) (λ e. left_join (λ m. true) (acc e) (leaf (p ∷ []) g)) one (terms_of g))
    (same-trans (left_join-flat_map acc (terms_of g) (leaf (p ∷ []) g))
    (same-left_join (λ m. true) (flat_map acc (terms_of g)) ms (leaf (p ∷ []) g) (leaf (p ∷ []) g) s (same-refl (leaf (p ∷ []) g)))))

-- ---- stars

-- a star's solutions by patterns
both-patterns : (g : List RdfTriple) (x : Slot) (side : SideName) (required optional : List Arm) →
    both_sols g x side required optional ≡ flat_map (λ e. optional_of g side e (map (arm_pattern x side) optional) (of_entity g side x (map (arm_pattern x side) required) e)) (terms_of g)
both-patterns g x side required optional = ap (λ (f : RdfTerm → List Mapping). flat_map f (terms_of g)) (fun_ext (λ e.
    arms-optional g side e x optional (with_required g side e x required (entity_sols x e))
    ∙ ap (optional_of g side e (map (arm_pattern x side) optional)) (arms-required g side e x required (entity_sols x e))))

-- a star with a required arm is the leaf of its required arms' patterns, left-joined with each optional one in turn
pub both-left_joins : (g : List RdfTriple) → IsDistinct same_triple g → (x : Slot) (side : SideName) (required optional : List Arm) → is_empty required ≡ false → slot_in_width x ≡ true → list_all arm_in_width required ≡ true → list_all arm_in_width optional ≡ true →
    SameBag (both_sols g x side required optional) (left_joins g (leaf (map (arm_pattern x side) required) g) (map (arm_pattern x side) optional))
both-left_joins g d x side [] optional n h r o = cc
both-left_joins g d x side (a ∷ required) optional n h r o =
    let ps = map (arm_pattern x side) (a ∷ required) in
    subst (λ (ms : List Mapping). SameBag ms (left_joins g (leaf ps g) (map (arm_pattern x side) optional))) (sym (both-patterns g x side (a ∷ required) optional))
    (optional-joins g side d x (map (arm_pattern x side) optional) (arms-are x side optional h o) (of_entity g side x ps) (leaf ps g)
    (λ e. required-tied g side x e ps (entity_sols x e) (entity-tied x e))
    (entities-leaf g side d x (arm_pattern x side a) (map (arm_pattern x side) required) (arms-are x side (a ∷ required) h r)))
