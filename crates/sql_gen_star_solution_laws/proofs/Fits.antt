-- What a triple adds to a mapping, slot by slot.
use Rattle.std.proofs.Common.{◌≡◌, ℕ, zero, suc, ◌<◌, ◌⊎◌, Bool, true, false, cond, if◌then◌else◌, ◌&&◌, ◌||◌, List, [], ◌∷◌, Option, Some, None, sym, refl, ap, ap₂, ◌∙◌, subst, is_some, inl, inr, ◌==◌}
use Rattle.std.proofs.Math.Nat.{add-zero}
use Rattle.std.proofs.Math.Path.{fun_ext}
use Rattle.std.proofs.lemmas.Bool.{eqb-true, cases_Bool, and_parts, or_parts}
use Rattle.std.specs.List.{flat_map}
use Rattle.bags.specs.Bag.{total}
use Rattle.bags.specs.BagLaws.{total-same, total-flat_map}
use Rattle.rdf_meaning.specs.Terms.{RdfTerm, RdfTriple, same_term}
use Rattle.rdf_meaning.specs.TermLaws.{same_term-self, same_term-is}
use Rattle.query_meaning.specs.declared.pattern.Slot.{Slot}
use Rattle.query_meaning.specs.declared.pattern.Slot.TheVariants.{Var, Const}
use Rattle.query_meaning.specs.declared.pattern.Pattern.{Pattern}
use Rattle.query_eval_meaning.specs.Mapping.{Mapping, nothing, set, width, agree, agree_below, compatible, either, merge}
use Rattle.query_eval_meaning.specs.Leaf.{matches, bound, bind_slot, instance_is, slot_is, is_term, in_pattern, is_variable}
use Rattle.query_algebra_laws.specs.MappingLaws.{agreed, set-same}
use Rattle.query_algebra_laws.specs.Assignments.{instance-same}
use Rattle.query_algebra_laws.specs.OneLeaf.{total-matches, is_term-some}
use Rattle.sql_gen_step_laws.specs.StepTests.{same_bools}
use Rattle.sql_gen_star_number_laws.proofs.PairItems.{total-if}

-- the mapping with a variable's term, where it agrees with the term that the variable has
abbrev pub fit_value : ℕ → RdfTerm → Mapping → Option RdfTerm → List Mapping
fit_value v t m None = set v (Some t) m ∷ []
fit_value v t m (Some u) = if same_term u t then m ∷ [] else []

abbrev pub fit_slot : Slot → RdfTerm → Mapping → List Mapping
fit_slot (Const c) t m = if same_term c t then m ∷ [] else []
fit_slot (Var v) t m = fit_value v t m (m v)

abbrev pub fit : Pattern → RdfTriple → Mapping → List Mapping
fit p t m = flat_map (fit_slot p.o t.o) (flat_map (fit_slot p.p t.p) (fit_slot p.s t.s m))

merge-set_left : (v : ℕ) (t : RdfTerm) (m b : Mapping) → m v ≡ None → (w : ℕ) → merge (set v (Some t) m) b w ≡ merge m (set v (Some t) b) w
merge-set_left v t m b none w = go (cases_Bool (w == v))
  where
    go : ((w == v) ≡ true) ⊎ ((w == v) ≡ false) → either (if w == v then Some t else m w) (b w) ≡ either (m w) (if w == v then Some t else b w)
    go (inl e) = let at : m w ≡ None = ap m (eqb-true w v e) ∙ none in rw (e, at) refl
    go (inr e) = rw e refl

merge-kept : (v : ℕ) (t u : RdfTerm) (m b : Mapping) → m v ≡ Some u → (w : ℕ) → merge m b w ≡ merge m (set v (Some t) b) w
merge-kept v t u m b some w = go (cases_Bool (w == v))
  where
    go : ((w == v) ≡ true) ⊎ ((w == v) ≡ false) → either (m w) (b w) ≡ either (m w) (if w == v then Some t else b w)
    go (inl e) = let at : m w ≡ Some u = ap m (eqb-true w v e) ∙ some in rw (e, at) refl
    go (inr e) = rw e refl

-- one slot
fit-slot : (P : Mapping → ℕ) (x : Slot) (t : RdfTerm) (m b : Mapping) → total (λ n. P (merge n b)) (fit_slot x t m) ≡ cond (slot_is (merge m (bind_slot x t b)) x t) (P (merge m (bind_slot x t b))) 0
fit-slot P (Const c) t m b = total-if (same_term c t) (λ n. P (merge n b)) m
fit-slot P (Var v) t m b = go (m v) refl
  where
    M : Mapping
    M = merge m (set v (Some t) b)

    go : (o : Option RdfTerm) → m v ≡ o → total (λ n. P (merge n b)) (fit_value v t m o) ≡ cond (is_term (merge m (set v (Some t) b) v) t) (P (merge m (set v (Some t) b))) 0
    go None e =
        let same : merge (set v (Some t) m) b ≡ merge m (set v (Some t) b) = fun_ext (merge-set_left v t m b e) in
        let at : merge m (set v (Some t) b) v ≡ Some t = ap₂ either e (set-same v (Some t) b) in
        add-zero (P (merge (set v (Some t) m) b)) ∙ ap P same ∙ sym (ap (λ (o : Option RdfTerm). cond (is_term o t) (P (merge m (set v (Some t) b))) 0) at ∙ ap (λ (c : Bool). cond c (P (merge m (set v (Some t) b))) 0) (same_term-self t))
    go (Some u) e =
        let same : merge m b ≡ merge m (set v (Some t) b) = fun_ext (merge-kept v t u m b e) in
        let at : merge m (set v (Some t) b) v ≡ Some u = ap (λ (o : Option RdfTerm). either o (set v (Some t) b v)) e in
        total-if (same_term u t) (λ n. P (merge n b)) m ∙ ap (λ (n : Mapping). cond (same_term u t) (P n) 0) same ∙ sym (ap (λ (o : Option RdfTerm). cond (is_term o t) (P (merge m (set v (Some t) b))) 0) at)

merge-nothing : (m : Mapping) → merge m nothing ≡ m
merge-nothing m = fun_ext (λ v. go (m v))
  where
    go : (o : Option RdfTerm) → either o None ≡ o
    go None = refl
    go (Some t) = refl

and_cond : (a b c : Bool) (n : ℕ) → cond a (cond b (cond c n 0) 0) 0 ≡ cond (a && (b && c)) n 0
and_cond true true c n = refl
and_cond true false c n = refl
and_cond false b c n = refl

-- all three slots
pub total-fit : (K : Mapping → ℕ) (p : Pattern) (t : RdfTriple) (m : Mapping) → total K (fit p t m) ≡ cond (instance_is (merge m (bound p t)) p t) (K (merge m (bound p t))) 0
total-fit K p t m =
    let bo : Mapping = bind_slot p.o t.o nothing in
    let bp : Mapping = bind_slot p.p t.p bo in
    let Q : Mapping → ℕ = λ M. cond (slot_is M p.o t.o) (K M) 0 in
    let R : Mapping → ℕ = λ M. cond (slot_is M p.p t.p) (Q M) 0 in
    let inner : (n : Mapping) → total K (fit_slot p.o t.o n) ≡ Q (merge n bo) =
    λ n. total-same K (λ k. K (merge k nothing)) (λ k. ap K (sym (merge-nothing k))) (fit_slot p.o t.o n) ∙ fit-slot K p.o t.o n nothing in
    total-flat_map K (fit_slot p.o t.o) (flat_map (fit_slot p.p t.p) (fit_slot p.s t.s m))
    ∙ total-same _ _ inner (flat_map (fit_slot p.p t.p) (fit_slot p.s t.s m))
    ∙ total-flat_map (λ n. Q (merge n bo)) (fit_slot p.p t.p) (fit_slot p.s t.s m)
    ∙ total-same _ _ (λ n. fit-slot Q p.p t.p n bo) (fit_slot p.s t.s m)
    ∙ fit-slot R p.s t.s m bp
    ∙ and_cond (slot_is (merge m (bound p t)) p.s t.s) (slot_is (merge m (bound p t)) p.p t.p) (slot_is (merge m (bound p t)) p.o t.o) (K (merge m (bound p t)))

-- ---- an instance under the merged mapping is an instance that agrees

bind-there : (x : Slot) (u : RdfTerm) (c : Mapping) (v : ℕ) → is_variable v x ≡ true → bind_slot x u c v ≡ Some u
bind-there (Var w) u c v e = rw e refl
bind-there (Const k) u c v e = cc

bind-other : (x : Slot) (u : RdfTerm) (c : Mapping) (v : ℕ) → is_variable v x ≡ false → bind_slot x u c v ≡ c v
bind-other (Var w) u c v e = rw e refl
bind-other (Const k) u c v e = refl

slot-there : (M : Mapping) (x : Slot) (u : RdfTerm) (v : ℕ) → slot_is M x u ≡ true → is_variable v x ≡ true → M v ≡ Some u
slot-there M (Var w) u v s e = ap M (eqb-true v w e) ∙ is_term-some (M w) u s
slot-there M (Const k) u v s e = cc

pub bound-none : (p : Pattern) (t : RdfTriple) (v : ℕ) → in_pattern v p ≡ false → bound p t v ≡ None
bound-none p t v e =
    let a = or_parts (is_variable v p.s) _ e in
    let b = or_parts (is_variable v p.p) _ a.1 in
    bind-other p.s t.s (bind_slot p.p t.p (bind_slot p.o t.o nothing)) v a.0 ∙ bind-other p.p t.p (bind_slot p.o t.o nothing) v b.0 ∙ bind-other p.o t.o nothing v b.1

-- what an instance's mapping has at the pattern's variables
pub instance-there : (M : Mapping) (p : Pattern) (t : RdfTriple) → instance_is M p t ≡ true → (v : ℕ) → in_pattern v p ≡ true → M v ≡ bound p t v
instance-there M p t i v e = go (cases_Bool (is_variable v p.s)) (cases_Bool (is_variable v p.p)) (cases_Bool (is_variable v p.o))
  where
    a : slot_is M p.s t.s ≡ true
    a = (and_parts (slot_is M p.s t.s) (slot_is M p.p t.p && slot_is M p.o t.o) i).0

    r : (slot_is M p.p t.p && slot_is M p.o t.o) ≡ true
    r = (and_parts (slot_is M p.s t.s) (slot_is M p.p t.p && slot_is M p.o t.o) i).1

    b : slot_is M p.p t.p ≡ true
    b = (and_parts (slot_is M p.p t.p) (slot_is M p.o t.o) r).0

    c : slot_is M p.o t.o ≡ true
    c = (and_parts (slot_is M p.p t.p) (slot_is M p.o t.o) r).1

    bo : Mapping
    bo = bind_slot p.o t.o nothing

    go : (is_variable v p.s ≡ true) ⊎ (is_variable v p.s ≡ false) → (is_variable v p.p ≡ true) ⊎ (is_variable v p.p ≡ false) → (is_variable v p.o ≡ true) ⊎ (is_variable v p.o ≡ false) → M v ≡ bound p t v
    go (inl x) y z = slot-there M p.s t.s v a x ∙ sym (bind-there p.s t.s (bind_slot p.p t.p (bind_slot p.o t.o nothing)) v x)
    go (inr x) (inl y) z = slot-there M p.p t.p v b y ∙ sym (bind-other p.s t.s (bind_slot p.p t.p (bind_slot p.o t.o nothing)) v x ∙ bind-there p.p t.p (bind_slot p.o t.o nothing) v y)
    go (inr x) (inr y) (inl z) = slot-there M p.o t.o v c z ∙ sym (bind-other p.s t.s (bind_slot p.p t.p (bind_slot p.o t.o nothing)) v x ∙ bind-other p.p t.p (bind_slot p.o t.o nothing) v y ∙ bind-there p.o t.o nothing v z)
    go (inr x) (inr y) (inr z) = let q : (is_variable v p.s || (is_variable v p.p || is_variable v p.o)) ≡ true = e in let w : false ≡ true = rw (x, y, z) at q in cc

bound-some : (p : Pattern) (t : RdfTriple) (v : ℕ) → in_pattern v p ≡ true → is_some (bound p t v) ≡ true
bound-some p t v e = go (cases_Bool (is_variable v p.s)) (cases_Bool (is_variable v p.p)) (cases_Bool (is_variable v p.o))
  where
    go : (is_variable v p.s ≡ true) ⊎ (is_variable v p.s ≡ false) → (is_variable v p.p ≡ true) ⊎ (is_variable v p.p ≡ false) → (is_variable v p.o ≡ true) ⊎ (is_variable v p.o ≡ false) → is_some (bound p t v) ≡ true
    go (inl x) y z = ap is_some (bind-there p.s t.s (bind_slot p.p t.p (bind_slot p.o t.o nothing)) v x)
    go (inr x) (inl y) z = ap is_some (bind-other p.s t.s (bind_slot p.p t.p (bind_slot p.o t.o nothing)) v x ∙ bind-there p.p t.p (bind_slot p.o t.o nothing) v y)
    go (inr x) (inr y) (inl z) = ap is_some (bind-other p.s t.s (bind_slot p.p t.p (bind_slot p.o t.o nothing)) v x ∙ bind-other p.p t.p (bind_slot p.o t.o nothing) v y ∙ bind-there p.o t.o nothing v z)
    go (inr x) (inr y) (inr z) = let q : (is_variable v p.s || (is_variable v p.p || is_variable v p.o)) ≡ true = e in let w : false ≡ true = rw (x, y, z) at q in cc

agree-either : (x y : Option RdfTerm) → agree x y ≡ true → is_some y ≡ true → either x y ≡ y
agree-either None y a s = refl
agree-either (Some t) None a s = cc
agree-either (Some t) (Some u) a s = ap (λ (k : RdfTerm). Some k) (same_term-is t u a)

agree-same : (x y : Option RdfTerm) → either x y ≡ y → agree x y ≡ true
agree-same None y e = refl
agree-same (Some t) None e = refl
agree-same (Some t) (Some u) e = let q : t ≡ u = cc in subst (λ (k : RdfTerm). same_term t k ≡ true) q (same_term-self t)

agree-none : (x : Option RdfTerm) → agree x None ≡ true
agree-none None = refl
agree-none (Some t) = refl

all_agree : (n : ℕ) (a b : Mapping) → ((v : ℕ) → agree (a v) (b v) ≡ true) → agree_below n a b ≡ true
all_agree zero a b h = refl
all_agree (suc n) a b h = rw (h n) (all_agree n a b h)

agrees : (m : Mapping) (p : Pattern) (t : RdfTriple) → ((v : ℕ) → in_pattern v p ≡ true → v < width) → (instance_is (bound p t) p t && compatible m (bound p t)) ≡ instance_is (merge m (bound p t)) p t
agrees m p t below = same_bools _ _ there back
  where
    there : (instance_is (bound p t) p t && compatible m (bound p t)) ≡ true → instance_is (merge m (bound p t)) p t ≡ true
    there e =
        let h = and_parts _ _ e in
        instance-same (merge m (bound p t)) (bound p t) p t (λ v i. agree-either (m v) (bound p t v) (agreed width m (bound p t) h.1 v (below v i)) (bound-some p t v i)) ∙ h.0

    back : instance_is (merge m (bound p t)) p t ≡ true → (instance_is (bound p t) p t && compatible m (bound p t)) ≡ true
    back e =
        let same : (v : ℕ) → in_pattern v p ≡ true → merge m (bound p t) v ≡ bound p t v = instance-there (merge m (bound p t)) p t e in
        let one : instance_is (bound p t) p t ≡ true = sym (instance-same (merge m (bound p t)) (bound p t) p t same) ∙ e in
        let each : (v : ℕ) → (in_pattern v p ≡ true) ⊎ (in_pattern v p ≡ false) → agree (m v) (bound p t v) ≡ true =
        λ v c. elim c as (λ x. agree (m v) (bound p t v) ≡ true) [ inl i ↦ agree-same (m v) (bound p t v) (same v i) | inr i ↦ (ap (agree (m v)) (bound-none p t v i) ∙ agree-none (m v)) ] in
        let two : compatible m (bound p t) ≡ true = all_agree width m (bound p t) (λ v. each v (cases_Bool (in_pattern v p))) in
        rw (one, two) refl

and_two : (a b : Bool) (n : ℕ) → cond a (cond b n 0) 0 ≡ cond (a && b) n 0
and_two true b n = refl
and_two false b n = refl

-- the merges of a mapping with a triple's solution are what the triple adds to it
pub total-added : (K : Mapping → ℕ) (p : Pattern) (t : RdfTriple) (m : Mapping) → ((v : ℕ) → in_pattern v p ≡ true → v < width) →
    total (λ b. cond (compatible m b) (K (merge m b)) 0) (matches p t) ≡ total K (fit p t m)
total-added K p t m below =
    total-matches (λ b. cond (compatible m b) (K (merge m b)) 0) p t
    ∙ and_two (instance_is (bound p t) p t) (compatible m (bound p t)) (K (merge m (bound p t)))
    ∙ ap (λ (c : Bool). cond c (K (merge m (bound p t))) 0) (agrees m p t below)
    ∙ sym (total-fit K p t m)

-- a triple's solutions are what it adds to nothing
pub total-alone : (K : Mapping → ℕ) (p : Pattern) (t : RdfTriple) → total K (matches p t) ≡ total K (fit p t nothing)
total-alone K p t = total-matches K p t ∙ sym (total-fit K p t nothing)
