-- The leaf of one pattern goes triple by triple.
use Rattle.std.specs.Prelude.{◌≡◌, ℕ, zero, suc, ◌+◌, ◌<◌, ◌≤◌, ◌⊎◌, Bool, true, false, cond, if◌then◌else◌, ◌&&◌, ◌||◌, ◌==◌, List, [], ◌∷◌, Option, Some, None, is_some, refl}
use Rattle.std.proofs.Common.{sym, ap, ◌∙◌, subst, arith, ltb, inl, inr}
use Rattle.std.proofs.Math.Path.{fun_ext}
use Rattle.std.proofs.lemmas.Bool.{eqb-true, and_parts, and_from, or_parts, or_cases, or_left, or_right, cases_Bool, lt-ltb, le-ltb, cases_eq, cases_lt, ltb-true, both_ways, false_from_ne_true}
use Rattle.std.specs.List.{list_any, list_all, flat_map, AllByRecursion, IsDistinct}
use Rattle.bags.specs.Bag.{total, SameBag}
use Rattle.bags.specs.BagLaws.{total-same, total-each, total-cond, total-none, total-map, total-flat_map, total-filter, total-swap, each-weaker}
use Rattle.rdf_meaning.specs.Terms.{RdfTerm, RdfTriple, same_term, same_triple}
use Rattle.rdf_meaning.specs.TermLaws.{same_term-is, same_term-self, same_term_equiv}
use Rattle.query_meaning.specs.declared.pattern.Slot.{Slot}
use Rattle.query_meaning.specs.declared.pattern.Slot.TheVariants.{Var, Const}
use Rattle.query_meaning.specs.declared.pattern.Pattern.{Pattern}
use Rattle.query_eval_meaning.specs.Mapping.{Mapping, nothing, set, width}
use Rattle.query_eval_meaning.specs.Leaf.{with_term, terms_of, is_variable, in_pattern, choices, assignments, is_term, slot_is, instance_is, holds, leaf, bind_slot, bound, matches}
use Rattle.query_eval_meaning.specs.Answer.{same_place}
use Rattle.query_eval_meaning.specs.Matches.{same_below}
use Rattle.query_eval_meaning.specs.Width.{pattern_in_width, slot_in_width}
use Rattle.query_algebra_laws.specs.OrderedAnswer.{same_place-is, same_place-self}
use Rattle.query_algebra_laws.specs.Choices.{Apart}
use Rattle.query_algebra_laws.specs.MappingLaws.{set-same, set-other, none-is}
use Rattle.query_algebra_laws.specs.Assignments.{cond-and, total-assignments, Shaped, each-assignments, terms-apart, occurring}

pub is_term-some : (x : Option RdfTerm) (t : RdfTerm) → is_term x t ≡ true → x ≡ Some t
is_term-some (Some a) t e = ap (λ (a : RdfTerm). Some a) (same_term-is a t e)
is_term-some None t e = cc

-- a mapping under which the slot is the term agrees with one that binds it
bind-agree : (x : Slot) (u : RdfTerm) (m c : Mapping) (v : ℕ) → slot_is m x u ≡ true → (is_variable v x ≡ false → m v ≡ c v) → m v ≡ bind_slot x u c v
bind-agree (Const k) u m c v e f = f refl
bind-agree (Var w) u m c v e f = go (cases_Bool (v == w))
  where
    go : ((v == w) ≡ true) ⊎ ((v == w) ≡ false) → m v ≡ (if v == w then Some u else c v)
    go (inl q) = rw q (ap m (eqb-true v w q) ∙ is_term-some (m w) u e)
    go (inr q) = rw q (f q)

abbrev pub in_pattern_of : Pattern → ℕ → Bool
in_pattern_of p v = in_pattern v p

and_no : (b : Bool) → (b && false) ≡ false
and_no true = refl
and_no false = refl

instance-bound : (p : Pattern) (t : RdfTriple) (m : Mapping) → Shaped (in_pattern_of p) width m → instance_is m p t ≡ true → m ≡ bound p t
instance-bound p t m s e = fun_ext (λ v. at v)
  where
    a : (slot_is m p.s t.s ≡ true) × ((slot_is m p.p t.p && slot_is m p.o t.o) ≡ true)
    a = and_parts _ _ e

    b : (slot_is m p.p t.p ≡ true) × (slot_is m p.o t.o ≡ true)
    b = and_parts _ _ a.1

    at : (v : ℕ) → m v ≡ bound p t v
    at v = bind-agree p.s t.s m (bind_slot p.p t.p (bind_slot p.o t.o nothing)) v a.0 (λ x.
        bind-agree p.p t.p m (bind_slot p.o t.o nothing) v b.0 (λ y.
        bind-agree p.o t.o m nothing v b.1 (λ z. none-is (m v) (s v ∙ rw (x, y, z) (and_no (ltb v width))))))

-- ---- just one assignment is a given mapping

pub same_below-refl : (n : ℕ) (m : Mapping) → same_below n m m ≡ true
same_below-refl zero m = refl
same_below-refl (suc v) m = and_from _ _ (same_place-self (m v)) (same_below-refl v m)

same_below-set : (n v : ℕ) (t : Option RdfTerm) (m k : Mapping) → n ≤ v → same_below n (set v t m) k ≡ same_below n m k
same_below-set zero v t m k l = refl
same_below-set (suc n) v t m k l =
    let ne : n ≡ v → ⊥ = omega arith in
    let le : n ≤ v = omega arith in
    rw (set-other v n t m ne, same_below-set n v t m k le) refl

same-step : (n : ℕ) (m k : Mapping) → same_place (m n) (k n) ≡ true → ((v : ℕ) → v < n → m v ≡ k v) → (v : ℕ) → v < suc n → m v ≡ k v
same-step n m k top below v l = go (cases_eq v n)
  where
    go : (v ≡ n) ⊎ (v ≡ n → ⊥) → m v ≡ k v
    go (inl q) = rw q (same_place-is (m n) (k n) top)
    go (inr q) = below v (omega arith)

pub same-at : (n : ℕ) (m k : Mapping) → same_below n m k ≡ true → (v : ℕ) → v < n → m v ≡ k v
same-at zero m k e v l = absurd (omega arith)
same-at (suc n) m k e v l = let h = and_parts _ _ e in same-step n m k h.0 (same-at n m k h.1) v l

-- the sum over the one term that it is
pub total-one : (u : RdfTerm) (c : ℕ) (ts : List RdfTerm) → Apart ts → list_any (same_term u) ts ≡ true → total (λ t. cond (same_term t u) c 0) ts ≡ c
total-one u c [] a e = cc
total-one u c (t ∷ ts) a e = go (cases_Bool (same_term t u)) (total-one u c ts a.1)
  where
    flip : total (λ s. cond (same_term s u) c 0) ts ≡ total (λ s. cond (same_term u s) c 0) ts
    flip = total-same _ _ (λ s. ap (λ b. cond b c 0) (same_term_equiv.symm s u)) ts

    go : (same_term t u ≡ true) ⊎ (same_term t u ≡ false) → (list_any (same_term u) ts ≡ true → total (λ t. cond (same_term t u) c 0) ts ≡ c) → cond (same_term t u) c 0 + total (λ t. cond (same_term t u) c 0) ts ≡ c
    go (inl q) h =
        let same : t ≡ u = same_term-is t u q in
        let z : total (λ s. cond (same_term u s) c 0) ts ≡ 0 = total-none (same_term u) (λ s. c) ts (subst (λ x. list_any (same_term x) ts ≡ false) same a.0) in
        let f : total (λ s. cond (same_term s u) c 0) ts ≡ total (λ s. cond (same_term u s) c 0) ts = flip in
        rw q (omega arith)
    go (inr q) h =
        let r : (same_term u t || list_any (same_term u) ts) ≡ true = e in
        let n : same_term u t ≡ false = same_term_equiv.symm u t ∙ q in
        let y : total (λ t. cond (same_term t u) c 0) ts ≡ c = h (rw n at r) in
        rw q (omega arith)

-- what a choice must be
abbrev pub Chosen : List RdfTerm → Bool → Option RdfTerm → Type 0
Chosen ts true o = (u : RdfTerm) × (o ≡ Some u) × (list_any (same_term u) ts ≡ true)
Chosen ts false o = o ≡ None

total-chosen : (ts : List RdfTerm) → Apart ts → (b : Bool) (o : Option RdfTerm) → Chosen ts b o → (c : ℕ) → total (λ x. cond (same_place x o) c 0) (choices b ts) ≡ c
total-chosen ts a true o h c = rw h.1 (total-map (λ x. cond (same_place x (Some h.0)) c 0) (λ (t : RdfTerm). Some t) ts ∙ total-one h.0 c ts a h.2)
total-chosen ts a false o h c = rw h (omega arith)

total-same_below : (o : ℕ → Bool) (ts : List RdfTerm) → Apart ts → (k : Mapping) (c n : ℕ) → ((v : ℕ) → v < n → Chosen ts (o v) (k v)) → total (λ m. cond (same_below n m k) c 0) (assignments o ts n) ≡ c
total-same_below o ts a k c zero h = omega arith
total-same_below o ts a k c (suc v) h =
    let one : (m : Mapping) (x : Option RdfTerm) → cond (same_below (suc v) (set v x m) k) c 0 ≡ cond (same_below v m k) (cond (same_place x (k v)) c 0) 0 =
    λ m x. rw (set-same v x m, same_below-set v v x m k (omega arith)) (cond-and (same_place x (k v)) (same_below v m k) c) in
    total-assignments (λ m. cond (same_below (suc v) m k) c 0) o ts v
    ∙ total-same _ _ (λ m. total-same _ _ (λ x. one m x) (choices (o v) ts) ∙ total-cond (same_below v m k) (λ x. cond (same_place x (k v)) c 0) (choices (o v) ts)
    ∙ ap (λ n. cond (same_below v m k) n 0) (total-chosen ts a (o v) (k v) (h v (omega arith)) c)) (assignments o ts v)
    ∙ total-same_below o ts a k c v (λ w l. h w (omega arith))

-- ---- what a triple binds stands in the triples' terms

bind-chosen : (ts : List RdfTerm) (x : Slot) (u : RdfTerm) (c : Mapping) (v : ℕ) (b : Bool) → list_any (same_term u) ts ≡ true → Chosen ts b (c v) → Chosen ts (is_variable v x || b) (bind_slot x u c v)
bind-chosen ts (Const k) u c v b e h = h
bind-chosen ts (Var w) u c v b e h = go (cases_Bool (v == w))
  where
    go : ((v == w) ≡ true) ⊎ ((v == w) ≡ false) → Chosen ts ((v == w) || b) (if v == w then Some u else c v)
    go (inl q) = rw q (u, refl, e)
    go (inr q) = rw q h

or_no : (b : Bool) → b ≡ (b || false)
or_no true = refl
or_no false = refl

pub bound-chosen : (ts : List RdfTerm) (p : Pattern) (t : RdfTriple) → list_any (same_term t.s) ts ≡ true → list_any (same_term t.p) ts ≡ true → list_any (same_term t.o) ts ≡ true → (v : ℕ) → Chosen ts (in_pattern v p) (bound p t v)
bound-chosen ts p t a b c v =
    bind-chosen ts p.s t.s (bind_slot p.p t.p (bind_slot p.o t.o nothing)) v (is_variable v p.p || is_variable v p.o) a
    (bind-chosen ts p.p t.p (bind_slot p.o t.o nothing) v (is_variable v p.o) b
    (subst (λ x. Chosen ts x (bind_slot p.o t.o nothing v)) (sym (or_no (is_variable v p.o))) (bind-chosen ts p.o t.o nothing v false c refl)))

with-there : (u t : RdfTerm) (ts : List RdfTerm) → list_any (same_term u) ts ≡ true → list_any (same_term u) (with_term t ts) ≡ true
with-there u t ts e = go (list_any (same_term t) ts)
  where
    go : (b : Bool) → list_any (same_term u) (if b then ts else t ∷ ts) ≡ true
    go true = e
    go false = or_right _ _ e

with-itself : (t : RdfTerm) (ts : List RdfTerm) → list_any (same_term t) (with_term t ts) ≡ true
with-itself t ts = go (cases_Bool (list_any (same_term t) ts))
  where
    go : (list_any (same_term t) ts ≡ true) ⊎ (list_any (same_term t) ts ≡ false) → list_any (same_term t) (if list_any (same_term t) ts then ts else t ∷ ts) ≡ true
    go (inl e) = rw e e
    go (inr e) = rw e (or_left _ _ (same_term-self t))

-- each part of the triple stands among the terms
pub record Stands (ts : List RdfTerm) (t : RdfTriple) : Type 0 where
  pub s : list_any (same_term t.s) ts ≡ true
  pub p : list_any (same_term t.p) ts ≡ true
  pub o : list_any (same_term t.o) ts ≡ true

pub each-stands : (g : List RdfTriple) → AllByRecursion (Stands (terms_of g)) g
each-stands [] = tt
each-stands (t ∷ g) =
    let ts = terms_of g in
    let more : (u : RdfTerm) → list_any (same_term u) ts ≡ true → list_any (same_term u) (terms_of (t ∷ g)) ≡ true =
    λ u e. with-there u t.s _ (with-there u t.p _ (with-there u t.o ts e)) in (
      record { s = with-itself t.s _; p = with-there t.p t.s _ (with-itself t.p _); o = with-there t.o t.s _ (with-there t.o t.p _ (with-itself t.o ts)) },
      each-weaker (Stands ts) (Stands (terms_of (t ∷ g))) (λ u h. record { s = more u.s h.s; p = more u.p h.p; o = more u.o h.o }) g (each-stands g),
    )

-- ---- at most one triple is the instance

slot-one : (m : Mapping) (x : Slot) (t u : RdfTerm) → slot_is m x t ≡ true → slot_is m x u ≡ true → same_term t u ≡ true
slot-one m (Var v) t u a b = let e : Some t ≡ Some u = sym (is_term-some (m v) t a) ∙ is_term-some (m v) u b in let f : t ≡ u = cc in rw f (same_term-self u)
slot-one m (Const c) t u a b = let f : c ≡ t = same_term-is c t a in rw (← f) b

instance-one : (m : Mapping) (p : Pattern) (t u : RdfTriple) → instance_is m p t ≡ true → instance_is m p u ≡ true → same_triple t u ≡ true
instance-one m p t u a b =
    let x = and_parts (slot_is m p.s t.s) _ a in
    let x' = and_parts (slot_is m p.p t.p) _ x.1 in
    let y = and_parts (slot_is m p.s u.s) _ b in
    let y' = and_parts (slot_is m p.p u.p) _ y.1 in
    and_from _ _ (slot-one m p.s t.s u.s x.0 y.0) (and_from _ _ (slot-one m p.p t.p u.p x'.0 y'.0) (slot-one m p.o t.o u.o x'.1 y'.1))

others-none : (m : Mapping) (p : Pattern) (t : RdfTriple) (g : List RdfTriple) → instance_is m p t ≡ true → list_any (same_triple t) g ≡ false → list_any (instance_is m p) g ≡ false
others-none m p t [] e n = refl
others-none m p t (u ∷ g) e n =
    let h = or_parts (same_triple t u) _ n in
    let a : instance_is m p u ≡ false = false_from_ne_true _ (λ i. both_ways _ h.0 (instance-one m p t u e i)) in
    rw a (others-none m p t g e h.1)

not_among : (t : RdfTriple) (g : List RdfTriple) → AllByRecursion (λ u. same_triple t u ≡ false) g → list_any (same_triple t) g ≡ false
not_among t [] all = refl
not_among t (u ∷ g) all = rw all.0 (not_among t g all.1)

any-sum : (m : Mapping) (p : Pattern) (c : ℕ) (g : List RdfTriple) → IsDistinct same_triple g → cond (list_any (instance_is m p) g) c 0 ≡ total (λ t. cond (instance_is m p t) c 0) g
unfolding IsDistinct
any-sum m p c [] d = refl
any-sum m p c (t ∷ g) d = go (cases_Bool (instance_is m p t)) (any-sum m p c g d.1)
  where
    go : (instance_is m p t ≡ true) ⊎ (instance_is m p t ≡ false) → cond (list_any (instance_is m p) g) c 0 ≡ total (λ t. cond (instance_is m p t) c 0) g →
        cond (instance_is m p t || list_any (instance_is m p) g) c 0 ≡ cond (instance_is m p t) c 0 + total (λ t. cond (instance_is m p t) c 0) g
    go (inl e) h =
        let z : total (λ t. cond (instance_is m p t) c 0) g ≡ 0 = total-none (instance_is m p) (λ t. c) g (others-none m p t g e (not_among t g d.0)) in
        rw e (omega arith)
    go (inr e) h = rw e (omega arith)

-- ---- the leaf

chosen-shaped : (ts : List RdfTerm) (b l : Bool) (o : Option RdfTerm) → Chosen ts b o → (b ≡ true → l ≡ true) → is_some o ≡ (l && b)
chosen-shaped ts true l o h f = rw (h.1, f refl) refl
chosen-shaped ts false l o h f = rw h (sym (and_no l))

and_yes : (b : Bool) → (b && true) ≡ b
and_yes true = refl
and_yes false = refl

pub total-matches : (h : Mapping → ℕ) (p : Pattern) (t : RdfTriple) → total h (matches p t) ≡ cond (instance_is (bound p t) p t) (h (bound p t)) 0
total-matches h p t = go (instance_is (bound p t) p t)
  where
    go : (b : Bool) → total h (if b then bound p t ∷ [] else []) ≡ cond b (h (bound p t)) 0
    go true = omega arith
    go false = refl

pointwise : (h : Mapping → ℕ) (p : Pattern) (t : RdfTriple) (m : Mapping) → ((v : ℕ) → in_pattern v p ≡ true → v < width) → Shaped (in_pattern_of p) width m → Shaped (in_pattern_of p) width (bound p t) →
    cond (instance_is m p t) (h m) 0 ≡ cond (same_below width m (bound p t)) (total h (matches p t)) 0
pointwise h p t m below s b = go (cases_Bool (instance_is m p t)) (cases_Bool (same_below width m (bound p t)))
  where
    same : same_below width m (bound p t) ≡ true → m ≡ bound p t
    same e = fun_ext (λ v. at v (cases_lt v width))
      where
        at : (v : ℕ) → (v < width) ⊎ (width ≤ v) → m v ≡ bound p t v
        at v (inl l) = same-at width m (bound p t) e v l
        at v (inr l) =
            let no : (ltb v width && in_pattern v p) ≡ false = ap (λ x. x && in_pattern v p) (le-ltb v width l) in
            none-is (m v) (s v ∙ no) ∙ sym (none-is (bound p t v) (b v ∙ no))

    go : (instance_is m p t ≡ true) ⊎ (instance_is m p t ≡ false) → (same_below width m (bound p t) ≡ true) ⊎ (same_below width m (bound p t) ≡ false) →
        cond (instance_is m p t) (h m) 0 ≡ cond (same_below width m (bound p t)) (total h (matches p t)) 0
    go i (inl q) = rw (q, total-matches h p t) (ap (λ (m : Mapping). cond (instance_is m p t) (h m) 0) (same q))
    go (inl i) (inr q) = absurd (both_ways _ q (subst (λ (k : Mapping). same_below width m k ≡ true) (instance-bound p t m s i) (same_below-refl width m)))
    go (inr i) (inr q) = rw (i, q) refl

slot_below : (x : Slot) (v : ℕ) → slot_in_width x ≡ true → is_variable v x ≡ true → v < width
slot_below (Var w) v e h = let same : v ≡ w = eqb-true v w h in let l : w < width = ltb-true w width e in omega arith
slot_below (Const t) v e h = cc

-- the variables of a pattern are below the width
pub pattern_below : (p : Pattern) → pattern_in_width p ≡ true → (v : ℕ) → in_pattern v p ≡ true → v < width
pattern_below p e v h =
    let w = and_parts (slot_in_width p.s) (slot_in_width p.p && slot_in_width p.o) e in
    let u = and_parts (slot_in_width p.p) (slot_in_width p.o) w.1 in
    go w.0 u.0 u.1 (or_cases (is_variable v p.s) (is_variable v p.p || is_variable v p.o) h)
  where
    more : slot_in_width p.p ≡ true → slot_in_width p.o ≡ true → (is_variable v p.p ≡ true) ⊎ (is_variable v p.o ≡ true) → v < width
    more b c (inl k) = slot_below p.p v b k
    more b c (inr k) = slot_below p.o v c k

    go : slot_in_width p.s ≡ true → slot_in_width p.p ≡ true → slot_in_width p.o ≡ true → (is_variable v p.s ≡ true) ⊎ ((is_variable v p.p || is_variable v p.o) ≡ true) → v < width
    go a b c (inl k) = slot_below p.s v a k
    go a b c (inr k) = more b c (or_cases (is_variable v p.p) (is_variable v p.o) k)

pub leaf_one_below : (p : Pattern) (g : List RdfTriple) → IsDistinct same_triple g → ((v : ℕ) → in_pattern v p ≡ true → v < width) → SameBag (leaf (p ∷ []) g) (flat_map (matches p) g)
leaf_one_below p g d below = record {
  totals = λ h.
      let o : ℕ → Bool = in_pattern_of p in
      let ts = terms_of g in
      let A = assignments o ts width in
      let shaped : (t : RdfTriple) → Stands ts t → Shaped o width (bound p t) = λ t st v. chosen-shaped ts (in_pattern v p) (ltb v width) (bound p t v) (bound-chosen ts p t st.s st.p st.o v) (λ e. lt-ltb v width (below v e)) in
      let each : (t : RdfTriple) → Stands ts t → total (λ m. cond (instance_is m p t) (h m) 0) A ≡ total h (matches p t) =
      λ t st. total-each _ _ (Shaped o width) (λ m s. pointwise h p t m below s (shaped t st)) A (each-assignments o ts width)
      ∙ total-same_below o ts (terms-apart g) (bound p t) (total h (matches p t)) width (λ v l. bound-chosen ts p t st.s st.p st.o v) in
      total-filter h (λ m. list_all (holds g m) (p ∷ [])) (assignments (occurring (p ∷ [])) ts width)
      ∙ ap (λ (q : ℕ → Bool). total (λ m. cond (list_all (holds g m) (p ∷ [])) (h m) 0) (assignments q ts width)) (fun_ext (λ v. sym (or_no (in_pattern v p))))
      ∙ total-same _ _ (λ m. ap (λ b. cond b (h m) 0) (and_yes (holds g m p)) ∙ any-sum m p (h m) g d) A
      ∙ total-swap (λ m t. cond (instance_is m p t) (h m) 0) A g
      ∙ total-each _ _ (Stands ts) each g (each-stands g)
      ∙ sym (total-flat_map h (matches p) g);
}

-- over distinct triples the solutions of one pattern are what each triple binds
pub leaf_one : (p : Pattern) (g : List RdfTriple) → IsDistinct same_triple g → pattern_in_width p ≡ true → SameBag (leaf (p ∷ []) g) (flat_map (matches p) g)
leaf_one p g d e = leaf_one_below p g d (pattern_below p e)
