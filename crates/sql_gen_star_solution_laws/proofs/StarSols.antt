-- What is filled in numbers is what the arms mean.
use Rattle.std.proofs.Common.{◌≡◌, ℕ, ◌+◌, ◌⊎◌, Bool, true, false, cond, if◌then◌else◌, ◌&&◌, ◌||◌, List, [], ◌∷◌, ◌++◌, map, Option, Some, None, sym, refl, ap, ap₂, ◌∙◌, subst, arith, eqb, is_some, inl, inr, ◌==◌}
use Rattle.std.proofs.Math.Bool.{or-true, or-false}
use Rattle.std.proofs.Math.Nat.{add-zero}
use Rattle.std.proofs.Math.Path.{fun_ext}
use Rattle.std.proofs.lemmas.Bool.{eqb-true, ne_eqb, cases_Bool, cases_eq, or_parts}
use Rattle.std.proofs.lemmas.List.{append-nil}
use Rattle.std.proofs.lemmas.List.Folds.{list_any-append}
use Rattle.std.specs.List.{flat_map, filter, AllByRecursion}
use Rattle.bags.specs.Bag.{total, SameBag}
use Rattle.bags.specs.BagLaws.{total-same, total-map, total-flat_map, total-filter, total-each}
use Rattle.rdf_meaning.specs.Terms.{RdfTerm, RdfTriple, same_term}
use Rattle.rdf_meaning.specs.TermLaws.{same_term-is, same_term_equiv}
use Rattle.rdf_meaning.specs.declared.side.SideName.{SideName}
use Rattle.rdf_meaning.specs.declared.side.SideName.TheVariants.{Direct, Reverse}
use Rattle.query_meaning.specs.declared.pattern.Slot.{Slot}
use Rattle.query_meaning.specs.declared.pattern.Slot.TheVariants.{Var, Const}
use Rattle.query_eval_meaning.specs.Mapping.{Mapping, set, compatible, merge}
use Rattle.query_eval_meaning.specs.Leaf.{matches}
use Rattle.query_eval_meaning.specs.Width.{slot_in_width}
use Rattle.query_eval_meaning.specs.Eval.{join, left_join, or_alone}
use Rattle.query_plan_meaning.specs.declared.star.Arm.{Arm}
use Rattle.query_plan_meaning.specs.Stars.{entity_of, arm_pattern, arm_sols, with_required, with_optional, arm_in_width}
use Rattle.query_algebra_laws.specs.Assignments.{cond-and}
use Rattle.query_algebra_laws.specs.OneLeaf.{pattern_below}
use Rattle.query_algebra_laws.specs.Joins.{total-joined, total-or_alone}
use Rattle.query_algebra_laws.specs.Optional.{total-found_with, found_with}
use Rattle.query_star_laws.specs.Entities.{Tied}
use Rattle.query_star_laws.specs.StarLeaves.{arm_below}
use Rattle.layout_meaning.specs.Columns.{ColumnsOf}
use Rattle.layout_meaning.specs.Side.{Item}
use Rattle.layout_standing_meaning.specs.Contents.{SideContents, said, held_values}
use Rattle.query_algebra_laws.specs.MappingLaws.{none-is}
use Rattle.sql_gen_step_laws.specs.Carried.{Ids}
use Rattle.sql_gen_step_laws.specs.JoinStep.{Both, each-both}
use Rattle.sql_gen_step_laws.specs.StepSelects.{has}
use Rattle.sql_gen_star_meaning.specs.declared.arm.Asked.TheVariants.{Again, New, Maybe}
use Rattle.sql_gen_star_meaning.specs.Asked.{IdMapping, put, is_number, accepts, then_bound, asked_vars, asked_slot, asked_maybe}
use Rattle.sql_gen_star_meaning.specs.Openings.{held_choices, fill}
use Rattle.sql_gen_star_number_laws.proofs.Fill.{total-fill}
use Rattle.sql_gen_star_number_laws.proofs.PairItems.{total-if}
use Rattle.sql_gen_star_solution_laws.specs.StarArms.{IsConstant, IsArm, pred_number, star_arm, required_arms, required_vars, optional_arms, IsFresh, AllFresh, number_of, numbers_of, value_on, side_item}
use Rattle.sql_gen_star_solution_laws.proofs.Fits.{fit_value, fit_slot, fit, total-added}

pub eqb-turned : (a b : ℕ) → (a == b) ≡ (b == a)
eqb-turned a b = go (cases_eq a b)
  where
    go : (a ≡ b) ⊎ (a ≡ b → ⊥) → (a == b) ≡ (b == a)
    go (inl e) = rw e refl
    go (inr ne) = ne_eqb a b ne ∙ sym (ne_eqb b a (λ e. ne (sym e)))

no_cond : (b : Bool) → ◌≡◌ {A = ℕ} (cond b 0 0) 0
no_cond true = refl
no_cond false = refl

-- an id tells a known term from every other
abbrev pub Told : Ids → (RdfTerm → Bool) → Type 0
Told ids known = (c t : RdfTerm) → known t ≡ true → (ids c == ids t) ≡ same_term c t

pub record KnownTriple (known : RdfTerm → Bool) (t : RdfTriple) : Type 0 where
  pub subject : known t.s ≡ true
  pub predicate : known t.p ≡ true
  pub object : known t.o ≡ true

pub known_entity : (known : RdfTerm → Bool) (side : SideName) (t : RdfTriple) → KnownTriple known t → known (entity_of side t) ≡ true
known_entity known Direct t k = k.subject
known_entity known Reverse t k = k.object

pub known_value : (known : RdfTerm → Bool) (side : SideName) (t : RdfTriple) → KnownTriple known t → known (value_on side t) ≡ true
known_value known Direct t k = k.object
known_value known Reverse t k = k.subject

-- ---- what is sure of the mappings so far

pub record Sound (known : RdfTerm → Bool) (vs : List ℕ) (m : Mapping) : Type 0 where
  pub shape : (v : ℕ) → is_some (m v) ≡ has vs v
  pub known_terms : (v : ℕ) (t : RdfTerm) → m v ≡ Some t → known t ≡ true

pub has_last : (vs : List ℕ) (v w : ℕ) → has (vs ++ v ∷ []) w ≡ (has vs w || (w == v))
has_last vs v w = list_any-append (λ u. u == w) vs (v ∷ []) ∙ ap (λ (b : Bool). has vs w || b) (or_false (v == w) ∙ eqb-turned v w)
  where
    or_false : (b : Bool) → (b || false) ≡ b
    or_false true = refl
    or_false false = refl

-- ---- one slot

put-set : (ids : Ids) (v : ℕ) (u : RdfTerm) (m : Mapping) → put v (Some (ids u)) (numbers_of ids m) ≡ numbers_of ids (set v (Some u) m)
put-set ids v u m = fun_ext (λ w. go w (cases_Bool (w == v)))
  where
    go : (w : ℕ) → ((w == v) ≡ true) ⊎ ((w == v) ≡ false) → (if w == v then Some (ids u) else number_of ids (m w)) ≡ number_of ids (if w == v then Some u else m w)
    go w (inl e) = rw e refl
    go w (inr e) = rw e refl

pub slot_fits : (ids : Ids) (known : RdfTerm → Bool) → Told ids known → (vs : List ℕ) (x : Slot) (m : Mapping) → Sound known vs m → (u : RdfTerm) → known u ≡ true → (Q : IdMapping → ℕ) →
    cond (accepts (asked_slot ids vs x) (numbers_of ids m) (Some (ids u))) (Q (then_bound (asked_slot ids vs x) (Some (ids u)) (numbers_of ids m))) 0 ≡ total (λ n. Q (numbers_of ids n)) (fit_slot x u m)
slot_fits ids known told vs (Const c) m so u k Q =
    ap (λ (b : Bool). cond b (Q (numbers_of ids m)) 0) (eqb-turned (ids u) (ids c) ∙ told c u k) ∙ sym (total-if (same_term c u) (λ n. Q (numbers_of ids n)) m)
slot_fits ids known told vs (Var v) m so u k Q = go (m v) refl
  where
    go : (o : Option RdfTerm) → m v ≡ o →
        cond (accepts (if has vs v then Again v else New v) (numbers_of ids m) (Some (ids u))) (Q (then_bound (if has vs v then Again v else New v) (Some (ids u)) (numbers_of ids m))) 0 ≡ total (λ n. Q (numbers_of ids n)) (fit_value v u m o)
    go None e =
        let q : has vs v ≡ false = sym (so.shape v) ∙ ap is_some e in
        rw q (ap Q (put-set ids v u m) ∙ sym (add-zero _))
    go (Some w) e =
        let q : has vs v ≡ true = sym (so.shape v) ∙ ap is_some e in
        let t : is_number (Some (ids u)) (number_of ids (m v)) ≡ same_term w u = ap (λ (o : Option RdfTerm). is_number (Some (ids u)) (number_of ids o)) e ∙ eqb-turned (ids u) (ids w) ∙ told w u k in
        rw q (ap (λ (b : Bool). cond b (Q (numbers_of ids m)) 0) t ∙ sym (total-if (same_term w u) (λ n. Q (numbers_of ids n)) m))

-- what a slot binds is known, and the shape follows what is asked
each-if : {X : Type 0} (P : X → Type 0) (b : Bool) (x : X) → P x → AllByRecursion P (if b then x ∷ [] else [])
each-if P true x p = (p, tt)
each-if P false x p = tt

set-sound : (known : RdfTerm → Bool) (vs : List ℕ) (m : Mapping) → Sound known vs m → (v : ℕ) (u : RdfTerm) → known u ≡ true → Sound known (vs ++ v ∷ []) (set v (Some u) m)
set-sound known vs m so v u k = record {
  shape = λ w. shape_at w (cases_Bool (w == v)) ∙ sym (has_last vs v w);
  known_terms = λ w t e. known_at w t (cases_Bool (w == v)) e;
}
  where
    shape_at : (w : ℕ) → ((w == v) ≡ true) ⊎ ((w == v) ≡ false) → is_some (if w == v then Some u else m w) ≡ (has vs w || (w == v))
    shape_at w (inl e) = rw (e, or-true (has vs w)) refl
    shape_at w (inr e) = rw (e, or-false (has vs w)) (so.shape w)

    known_at : (w : ℕ) (t : RdfTerm) → ((w == v) ≡ true) ⊎ ((w == v) ≡ false) → (if w == v then Some u else m w) ≡ Some t → known t ≡ true
    known_at w t (inl e) h = let q : Some u ≡ Some t = rw e at h in let r : u ≡ t = cc in subst (λ (t : RdfTerm). known t ≡ true) r k
    known_at w t (inr e) h = so.known_terms w t (rw e at h)

pub each-fit : (ids : Ids) (known : RdfTerm → Bool) (vs : List ℕ) (m : Mapping) → Sound known vs m → (x : Slot) (u : RdfTerm) → known u ≡ true → AllByRecursion (Sound known (asked_vars (asked_slot ids vs x) vs)) (fit_slot x u m)
each-fit ids known vs m so (Const c) u k = each-if (Sound known vs) (same_term c u) m so
each-fit ids known vs m so (Var v) u k = go (m v) refl
  where
    go : (o : Option RdfTerm) → m v ≡ o → AllByRecursion (Sound known (asked_vars (if has vs v then Again v else New v) vs)) (fit_value v u m o)
    go None e = let q : has vs v ≡ false = sym (so.shape v) ∙ ap is_some e in rw q (set-sound known vs m so v u k, tt)
    go (Some w) e = let q : has vs v ≡ true = sym (so.shape v) ∙ ap is_some e in rw q (each-if (Sound known vs) (same_term w u) m so)

set-tied : (x : Slot) (e : RdfTerm) (m : Mapping) (v : ℕ) (u : RdfTerm) → m v ≡ None → Tied x e m → Tied x e (set v (Some u) m)
set-tied (Const c) e m v u n t = t
set-tied (Var w) e m v u n t = go (cases_Bool (w == v))
  where
    go : ((w == v) ≡ true) ⊎ ((w == v) ≡ false) → (if w == v then Some u else m w) ≡ Some e
    go (inl q) = let z : m w ≡ None = ap m (eqb-true w v q) ∙ n in cc
    go (inr q) = rw q t

pub each-tied : (x : Slot) (e : RdfTerm) (m : Mapping) → Tied x e m → (y : Slot) (u : RdfTerm) → AllByRecursion (Tied x e) (fit_slot y u m)
each-tied x e m t (Const c) u = each-if (Tied x e) (same_term c u) m t
each-tied x e m t (Var v) u = go (m v) refl
  where
    go : (o : Option RdfTerm) → m v ≡ o → AllByRecursion (Tied x e) (fit_value v u m o)
    go None n = (set-tied x e m v u n t, tt)
    go (Some w) n = each-if (Tied x e) (same_term w u) m t

-- ---- one arm of one entity

pub held_total : (ids : Ids) (side : SideName) (s : SideContents) (g : List RdfTriple) → SameBag (said s) (map (side_item side ids) g) → (H : ℕ → ℕ) (e p : ℕ) →
    total H (held_values s e p) ≡ total (λ (t : RdfTriple). cond (ids t.p == p) (cond (ids (entity_of side t) == e) (H (ids (value_on side t))) 0) 0) g
held_total ids side s g f H e p =
    total-map H (λ (x : Item). x.value) (filter (λ (x : Item). x.entity == e && x.pred == p) (said s))
    ∙ total-filter (λ (x : Item). H x.value) (λ (x : Item). x.entity == e && x.pred == p) (said s)
    ∙ f.totals (λ (x : Item). cond (x.entity == e && x.pred == p) (H x.value) 0)
    ∙ total-map (λ (x : Item). cond (x.entity == e && x.pred == p) (H x.value) 0) (side_item side ids) g
    ∙ total-same _ _ (λ (t : RdfTriple). cond-and (ids (entity_of side t) == e) (ids t.p == p) (H (ids (value_on side t)))) g

tied-fit : (x : Slot) (e t : RdfTerm) (m : Mapping) → Tied x e m → same_term t e ≡ true → fit_slot x t m ≡ m ∷ []
tied-fit (Const c) e t m tied s =
    let q : same_term c t ≡ true = subst (λ (u : RdfTerm). same_term c u ≡ true) (sym (same_term-is t e s)) tied in
    rw q refl
tied-fit (Var v) e t m tied s =
    let q : same_term e t ≡ true = same_term_equiv.symm e t ∙ s in
    ap (fit_value v t m) tied ∙ ap (λ (b : Bool). if b then m ∷ [] else []) q

-- a constant predicate
abbrev pub pred_is : Slot → RdfTerm → Bool
pred_is (Var v) u = false
pred_is (Const c) u = same_term c u

pred-fit : (q : Slot) → IsConstant q → (u : RdfTerm) (m : Mapping) → fit_slot q u m ≡ (if pred_is q u then m ∷ [] else [])
pred-fit (Var v) ok u m = absurd ok
pred-fit (Const c) ok u m = refl

pub pred_told : (ids : Ids) (known : RdfTerm → Bool) → Told ids known → (q : Slot) → IsConstant q → (u : RdfTerm) → known u ≡ true → (ids u == pred_number ids q) ≡ pred_is q u
pred_told ids known told (Var v) ok u k = absurd ok
pred_told ids known told (Const c) ok u k = eqb-turned (ids u) (ids c) ∙ told c u k

-- a triple of the entity adds what its value adds, where it has the predicate
arm-fit : (F : Mapping → ℕ) (side : SideName) (x : Slot) (a : Arm) → IsConstant a.pred → (t : RdfTriple) (e : RdfTerm) (m : Mapping) → Tied x e m → same_term (entity_of side t) e ≡ true →
    total F (fit (arm_pattern x side a) t m) ≡ cond (pred_is a.pred t.p) (total F (fit_slot a.value (value_on side t) m)) 0
arm-fit F Direct x a ok t e m tied s =
    ap (λ (ms : List Mapping). total F (flat_map (fit_slot a.value t.o) (flat_map (fit_slot a.pred t.p) ms))) (tied-fit x e t.s m tied s)
    ∙ ap (λ (ms : List Mapping). total F (flat_map (fit_slot a.value t.o) (ms ++ []))) (pred-fit a.pred ok t.p m)
    ∙ go (pred_is a.pred t.p)
  where
    go : (b : Bool) → total F (flat_map (fit_slot a.value t.o) ((if b then m ∷ [] else []) ++ [])) ≡ cond b (total F (fit_slot a.value t.o m)) 0
    go true = ap (total F) (append-nil (fit_slot a.value t.o m))
    go false = refl
arm-fit F Reverse x a ok t e m tied s =
    let H : Mapping → ℕ = λ n. cond (pred_is a.pred t.p) (F n) 0 in
    total-flat_map F (fit_slot x t.o) (flat_map (fit_slot a.pred t.p) (fit_slot a.value t.s m))
    ∙ total-flat_map (λ n. total F (fit_slot x t.o n)) (fit_slot a.pred t.p) (fit_slot a.value t.s m)
    ∙ total-each _ _ (Tied x e) (λ n tn. at n tn) (fit_slot a.value t.s m) (each-tied x e m tied a.value t.s)
    ∙ last (pred_is a.pred t.p)
  where
    zero_all : (ms : List Mapping) → total (λ (n : Mapping). 0) ms ≡ 0
    zero_all [] = refl
    zero_all (n ∷ ms) = let h : total (λ (n : Mapping). 0) ms ≡ 0 = zero_all ms in omega arith

    last : (b : Bool) → total (λ n. cond b (F n) 0) (fit_slot a.value t.s m) ≡ cond b (total F (fit_slot a.value t.s m)) 0
    last true = refl
    last false = zero_all (fit_slot a.value t.s m)

    go : (n : Mapping) → Tied x e n → (b : Bool) → total (λ n. total F (fit_slot x t.o n)) (if b then n ∷ [] else []) ≡ cond b (F n) 0
    go n tn true = let h : total F (fit_slot x t.o n) ≡ F n + 0 = ap (total F) (tied-fit x e t.o n tn s) in omega arith
    go n tn false = refl

    at : (n : Mapping) → Tied x e n → total (λ n. total F (fit_slot x t.o n)) (fit_slot a.pred t.p n) ≡ cond (pred_is a.pred t.p) (F n) 0
    at n tn = ap (λ (ms : List Mapping). total (λ n. total F (fit_slot x t.o n)) ms) (pred-fit a.pred ok t.p n) ∙ go n tn (pred_is a.pred t.p)

abbrev pub in_numbers : Ids → SideName → RdfTerm → ℕ → (RdfTerm → ℕ) → RdfTriple → ℕ
in_numbers ids side e p V t = cond (ids t.p == p) (cond (ids (entity_of side t) == ids e) (V (value_on side t)) 0) 0

module _ (ids : Ids) (known : RdfTerm → Bool) (told : Told ids known) (side : SideName) (s : SideContents) (g : List RdfTriple) (f : SameBag (said s) (map (side_item side ids) g)) (all : AllByRecursion (KnownTriple known) g)
    (columns : ColumnsOf) (x : Slot) (xw : slot_in_width x ≡ true) (e : RdfTerm) (ke : known e ≡ true) where
  arm_total : (F : Mapping → ℕ) (a : Arm) → IsConstant a.pred → arm_in_width a ≡ true → (m : Mapping) → Tied x e m →
      total (λ b. cond (compatible m b) (F (merge m b)) 0) (arm_sols g side e x a) ≡ total (in_numbers ids side e (pred_number ids a.pred) (λ u. total F (fit_slot a.value u m))) g
  arm_total F a ok aw m tied =
      let p = arm_pattern x side a in
      let B : Mapping → ℕ = λ b. cond (compatible m b) (F (merge m b)) 0 in
      let below = pattern_below p (arm_below x side a xw aw) in
      let go : (t : RdfTriple) → KnownTriple known t → (same_term (entity_of side t) e ≡ true) ⊎ (same_term (entity_of side t) e ≡ false) → cond (same_term (entity_of side t) e) (total B (matches p t)) 0 ≡ in_numbers ids side e (pred_number ids a.pred) (λ u. total F (fit_slot a.value u m)) t =
      λ t k s.
      let pred : (ids t.p == pred_number ids a.pred) ≡ pred_is a.pred t.p = pred_told ids known told a.pred ok t.p k.predicate in
      let entity : (ids (entity_of side t) == ids e) ≡ same_term (entity_of side t) e = told (entity_of side t) e ke in
      elim s as (λ z. cond (same_term (entity_of side t) e) (total B (matches p t)) 0 ≡ in_numbers ids side e (pred_number ids a.pred) (λ u. total F (fit_slot a.value u m)) t) [
        | inl q ↦ rw (pred, entity, q) (total-added F p t m below ∙ arm-fit F side x a ok t e m tied q)
        | inr q ↦ rw (pred, entity, q) (sym (no_cond (pred_is a.pred t.p)))
      ] in
      total-flat_map B (matches p) (filter (λ (t : RdfTriple). same_term (entity_of side t) e) g)
      ∙ total-filter (λ t. total B (matches p t)) (λ (t : RdfTriple). same_term (entity_of side t) e) g
      ∙ total-each _ _ (KnownTriple known) (λ t k. go t k (cases_Bool (same_term (entity_of side t) e))) g all

pub total-held_choices : (G : Option ℕ → ℕ) (xs : List ℕ) → total G (held_choices xs) ≡ cond (eqb (total (λ (x : ℕ). 1) xs) 0) (G None) (total (λ x. G (Some x)) xs)
total-held_choices G [] = add-zero (G None)
total-held_choices G (x ∷ xs) = rw (ne_eqb (1 + total (λ (x : ℕ). 1) xs) 0 (λ e. absurd (omega arith))) (total-map G (λ (y : ℕ). Some y) (x ∷ xs))

pub total-required : (G : Option ℕ → ℕ) (xs : List ℕ) → G None ≡ 0 → total G (held_choices xs) ≡ total (λ x. G (Some x)) xs
total-required G [] e = add-zero (G None) ∙ e
total-required G (x ∷ xs) e = total-map G (λ (y : ℕ). Some y) (x ∷ xs)

pub never_none : (ids : Ids) (vs : List ℕ) (y : Slot) (m : IdMapping) → accepts (asked_slot ids vs y) m None ≡ false
never_none ids vs (Const c) m = refl
never_none ids vs (Var v) m = go (cases_Bool (has vs v))
  where
    go : (has vs v ≡ true) ⊎ (has vs v ≡ false) → accepts (if has vs v then Again v else New v) m None ≡ false
    go (inl e) = rw e refl
    go (inr e) = rw e refl

-- the mapping binds variables of the list alone
abbrev pub Loose : List ℕ → Mapping → Type 0
Loose vs m = (v : ℕ) → has vs v ≡ false → m v ≡ None

put-none : (ids : Ids) (v : ℕ) (m : Mapping) → m v ≡ None → put v None (numbers_of ids m) ≡ numbers_of ids m
put-none ids v m n = fun_ext (λ w. go w (cases_Bool (w == v)))
  where
    go : (w : ℕ) → ((w == v) ≡ true) ⊎ ((w == v) ≡ false) → (if w == v then None else number_of ids (m w)) ≡ number_of ids (m w)
    go w (inl e) = let z : m w ≡ None = ap m (eqb-true w v e) ∙ n in rw (e, z) refl
    go w (inr e) = rw e refl

loose-wider : (vs : List ℕ) (v : ℕ) (m : Mapping) → Loose vs m → Loose (vs ++ v ∷ []) m
loose-wider vs v m l w e = l w (or_parts (has vs w) (w == v) (sym (has_last vs v w) ∙ e)).0

loose-set : (vs : List ℕ) (v : ℕ) (u : RdfTerm) (m : Mapping) → Loose vs m → Loose (vs ++ v ∷ []) (set v (Some u) m)
loose-set vs v u m l w e =
    let h = or_parts (has vs w) (w == v) (sym (has_last vs v w) ∙ e) in
    ap (λ (b : Bool). if b then Some u else m w) h.1 ∙ l w h.0

-- ---- all arms of an entity

with_required-each : (K : Mapping → ℕ) (g : List RdfTriple) (side : SideName) (e : RdfTerm) (x : Slot) (arms : List Arm) (ms : List Mapping) → total K (with_required g side e x arms ms) ≡ total (λ m. total K (with_required g side e x arms (m ∷ []))) ms
with_required-each K g side e x [] ms = total-same K (λ m. K m + 0) (λ m. omega arith) ms
with_required-each K g side e x (a ∷ arms) ms =
    let step : Mapping → List Mapping = λ n. map (merge n) (filter (compatible n) (arm_sols g side e x a)) in
    let T : Mapping → ℕ = λ m. total K (with_required g side e x arms (m ∷ [])) in
    with_required-each K g side e x arms (flat_map step ms) ∙ total-flat_map T step ms
    ∙ total-same _ _ (λ m. sym (with_required-each K g side e x arms (flat_map step (m ∷ [])) ∙ total-flat_map T step (m ∷ []) ∙ add-zero _)) ms

with_optional-each : (K : Mapping → ℕ) (g : List RdfTriple) (side : SideName) (e : RdfTerm) (x : Slot) (arms : List Arm) (ms : List Mapping) → total K (with_optional g side e x arms ms) ≡ total (λ m. total K (with_optional g side e x arms (m ∷ []))) ms
with_optional-each K g side e x [] ms = total-same K (λ m. K m + 0) (λ m. omega arith) ms
with_optional-each K g side e x (a ∷ arms) ms =
    let step : Mapping → List Mapping = λ n. or_alone n (found_with (arm_sols g side e x a) n) in
    let T : Mapping → ℕ = λ m. total K (with_optional g side e x arms (m ∷ [])) in
    with_optional-each K g side e x arms (flat_map step ms) ∙ total-flat_map T step ms
    ∙ total-same _ _ (λ m. sym (with_optional-each K g side e x arms (flat_map step (m ∷ [])) ∙ total-flat_map T step (m ∷ []) ∙ add-zero _)) ms

abbrev pub with_all : List RdfTriple → SideName → RdfTerm → Slot → List Mapping → List Arm → List Arm → List Mapping
with_all g side e x ms ps qs = with_optional g side e x qs (with_required g side e x ps ms)

pub with_all-each : (K : Mapping → ℕ) (g : List RdfTriple) (side : SideName) (e : RdfTerm) (x : Slot) (ps qs : List Arm) (ms : List Mapping) → total K (with_all g side e x ms ps qs) ≡ total (λ m. total K (with_all g side e x (m ∷ []) ps qs)) ms
with_all-each K g side e x ps qs ms =
    let T : Mapping → ℕ = λ m. total K (with_optional g side e x qs (m ∷ [])) in
    with_optional-each K g side e x qs (with_required g side e x ps ms) ∙ with_required-each T g side e x ps ms
    ∙ total-same _ _ (λ m. sym (with_optional-each K g side e x qs (with_required g side e x ps (m ∷ [])))) ms

module _ (ids : Ids) (known : RdfTerm → Bool) (told : Told ids known) (side : SideName) (s : SideContents) (g : List RdfTriple) (f : SameBag (said s) (map (side_item side ids) g)) (all : AllByRecursion (KnownTriple known) g)
    (columns : ColumnsOf) (x : Slot) (xw : slot_in_width x ≡ true) (e : RdfTerm) (ke : known e ≡ true) where
  -- a required arm
  required_step : (a : Arm) → IsArm a → (vs : List ℕ) (m : Mapping) → Sound known vs m → Tied x e m → (Q : IdMapping → ℕ) (J : Mapping → ℕ) →
      ((n : Mapping) → Sound known (asked_vars (asked_slot ids vs a.value) vs) n → Tied x e n → Q (numbers_of ids n) ≡ J n) →
      total (λ o. cond (accepts (asked_slot ids vs a.value) (numbers_of ids m) o) (Q (then_bound (asked_slot ids vs a.value) o (numbers_of ids m))) 0) (held_choices (held_values s (ids e) (pred_number ids a.pred))) ≡ total J (join (m ∷ []) (arm_sols g side e x a))
  required_step a ok vs m so tied Q J qj =
      let A = asked_slot ids vs a.value in
      let p : ℕ = pred_number ids a.pred in
      let G : Option ℕ → ℕ = λ o. cond (accepts A (numbers_of ids m) o) (Q (then_bound A o (numbers_of ids m))) 0 in
      let none : G None ≡ 0 = ap (λ (b : Bool). cond b (Q (then_bound A None (numbers_of ids m))) 0) (never_none ids vs a.value (numbers_of ids m)) in
      let value : (u : RdfTerm) → known u ≡ true → G (Some (ids u)) ≡ total J (fit_slot a.value u m) =
      λ u k. slot_fits ids known told vs a.value m so u k Q
      ∙ total-each _ _ (Both (Sound known (asked_vars A vs)) (Tied x e)) (λ n h. qj n h.fst h.snd) (fit_slot a.value u m) (each-both (Sound known (asked_vars A vs)) (Tied x e) (fit_slot a.value u m) (each-fit ids known vs m so a.value u k) (each-tied x e m tied a.value u)) in
      total-required G (held_values s (ids e) p) none
      ∙ held_total ids side s g f (λ v. G (Some v)) (ids e) p
      ∙ total-each _ _ (KnownTriple known) (λ t k. ap (λ (n : ℕ). cond (ids t.p == p) (cond (ids (entity_of side t) == ids e) n 0) 0) (value (value_on side t) (known_value known side t k))) g all
      ∙ sym (arm_total ids known told side s g f all columns x xw e ke J a ok.constant ok.below m tied)
      ∙ sym (add-zero _)
      ∙ sym (total-joined J (m ∷ []) (arm_sols g side e x a))

  -- an optional arm
  optional_step : (a : Arm) → IsArm a → (v : ℕ) → a.value ≡ Var v → (vs : List ℕ) (m : Mapping) → has vs v ≡ false → Loose vs m → Tied x e m → (Q : IdMapping → ℕ) (J : Mapping → ℕ) →
      ((n : Mapping) → Loose (vs ++ v ∷ []) n → Tied x e n → Q (numbers_of ids n) ≡ J n) →
      total (λ o. cond true (Q (put v o (numbers_of ids m))) 0) (held_choices (held_values s (ids e) (pred_number ids a.pred))) ≡ total J (left_join (λ m. true) (m ∷ []) (arm_sols g side e x a))
  optional_step a ok v av vs m new l tied Q J qj =
      let A = arm_sols g side e x a in
      let p : ℕ = pred_number ids a.pred in
      let xs = held_values s (ids e) p in
      let none : m v ≡ None = l v new in
      let alone : Q (put v None (numbers_of ids m)) ≡ J m = ap Q (put-none ids v m none) ∙ qj m (loose-wider vs v m l) tied in
      let some : (u : RdfTerm) → Q (put v (Some (ids u)) (numbers_of ids m)) ≡ J (set v (Some u) m) = λ u. ap Q (put-set ids v u m) ∙ qj (set v (Some u) m) (loose-set vs v u m l) (set-tied x e m v u none tied) in
      let one : (F : Mapping → ℕ) (u : RdfTerm) → total F (fit_slot a.value u m) ≡ F (set v (Some u) m) = λ F u. ap (λ (y : Slot). total F (fit_slot y u m)) av ∙ ap (λ (o : Option RdfTerm). total F (fit_value v u m o)) none ∙ add-zero _ in
      let both : (H : ℕ → ℕ) (F : Mapping → ℕ) → ((u : RdfTerm) → H (ids u) ≡ F (set v (Some u) m)) → total H xs ≡ total (λ b. cond (compatible m b) (F (merge m b)) 0) A =
      λ H F h. held_total ids side s g f H (ids e) p
      ∙ total-same _ _ (λ (t : RdfTriple). ap (λ (n : ℕ). cond (ids t.p == p) (cond (ids (entity_of side t) == ids e) n 0) 0) (h (value_on side t) ∙ sym (one F (value_on side t)))) g
      ∙ sym (arm_total ids known told side s g f all columns x xw e ke F a ok.constant ok.below m tied) in
      total-held_choices (λ o. Q (put v o (numbers_of ids m))) xs
      ∙ ap₂ (λ (n k : ℕ). cond (eqb n 0) (Q (put v None (numbers_of ids m))) k) (both (λ x. 1) (λ b. 1) (λ u. refl)) (both (λ x. Q (put v (Some x) (numbers_of ids m))) J some)
      ∙ ap (λ (k : ℕ). cond (eqb (total (λ b. cond (compatible m b) 1 0) A) 0) k (total (λ b. cond (compatible m b) (J (merge m b)) 0) A)) alone
      ∙ sym (total-flat_map J (λ m. or_alone m (found_with A m)) (m ∷ []) ∙ add-zero _ ∙ total-or_alone J m (found_with A m)
      ∙ ap₂ (λ (n k : ℕ). cond (eqb n 0) (J m) k) (total-found_with (λ b. 1) A m) (total-found_with J A m))

  filled_optional : (K : IdMapping → ℕ) (qs : List Arm) → AllByRecursion IsArm qs → (vs : List ℕ) → AllFresh ids vs qs → (m : Mapping) → Loose vs m → Tied x e m →
      total K (fill s (ids e) (optional_arms columns ids qs) (numbers_of ids m)) ≡ total (λ n. K (numbers_of ids n)) (with_optional g side e x qs (m ∷ []))
  filled_optional K [] ok vs fresh m l tied = refl
  filled_optional K (a ∷ qs) ok vs fresh m l tied = go a.value refl fresh.0 fresh.1 (filled_optional K qs ok.1)
    where
      go : (y : Slot) → a.value ≡ y → IsFresh vs y → AllFresh ids (asked_vars (asked_maybe ids y) vs) qs →
          ((vs : List ℕ) → AllFresh ids vs qs → (m : Mapping) → Loose vs m → Tied x e m → total K (fill s (ids e) (optional_arms columns ids qs) (numbers_of ids m)) ≡ total (λ n. K (numbers_of ids n)) (with_optional g side e x qs (m ∷ []))) →
          total K (fill s (ids e) (star_arm columns ids (asked_maybe ids y) a ∷ optional_arms columns ids qs) (numbers_of ids m)) ≡ total (λ n. K (numbers_of ids n)) (with_optional g side e x (a ∷ qs) (m ∷ []))
      go (Const k) is new rest ih = absurd new
      go (Var v) is new rest ih =
          total-fill K s (ids e) (star_arm columns ids (Maybe v) a) (optional_arms columns ids qs) (numbers_of ids m)
          ∙ optional_step a ok.0 v is vs m new l tied
          (λ n. total K (fill s (ids e) (optional_arms columns ids qs) n)) (λ n. total (λ n. K (numbers_of ids n)) (with_optional g side e x qs (n ∷ []))) (ih (vs ++ v ∷ []) rest)
          ∙ sym (with_optional-each (λ n. K (numbers_of ids n)) g side e x qs (left_join (λ m. true) (m ∷ []) (arm_sols g side e x a)))

  pub filled : (K : IdMapping → ℕ) (qs : List Arm) → AllByRecursion IsArm qs → (ps : List Arm) → AllByRecursion IsArm ps → (vs : List ℕ) → AllFresh ids (required_vars ids vs ps) qs → (m : Mapping) → Sound known vs m → Tied x e m →
      total K (fill s (ids e) (required_arms columns ids vs ps ++ optional_arms columns ids qs) (numbers_of ids m)) ≡ total (λ n. K (numbers_of ids n)) (with_all g side e x (m ∷ []) ps qs)
  filled K qs oq [] op vs fresh m so tied = filled_optional K qs oq vs fresh m (λ v h. none-is (m v) (so.shape v ∙ h)) tied
  filled K qs oq (a ∷ ps) op vs fresh m so tied =
      let A = asked_slot ids vs a.value in
      let rest = required_arms columns ids (asked_vars A vs) ps ++ optional_arms columns ids qs in
      total-fill K s (ids e) (star_arm columns ids A a) rest (numbers_of ids m)
      ∙ required_step a op.0 vs m so tied
      (λ n. total K (fill s (ids e) rest n)) (λ n. total (λ n. K (numbers_of ids n)) (with_all g side e x (n ∷ []) ps qs))
      (λ n sn tn. filled K qs oq ps op.1 (asked_vars A vs) fresh n sn tn)
      ∙ sym (with_all-each (λ n. K (numbers_of ids n)) g side e x ps qs (join (m ∷ []) (arm_sols g side e x a)))
