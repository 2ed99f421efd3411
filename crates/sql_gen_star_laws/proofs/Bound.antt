-- What the solutions of a star bind, and that its arms ask rightly.
use Rattle.std.proofs.Common.{◌≡◌, ℕ, suc, ◌<◌, ◌⊎◌, Bool, true, false, if◌then◌else◌, ◌||◌, List, [], ◌∷◌, ◌++◌, sym, refl, ap, ◌∙◌, subst, inl, inr, ◌==◌}
use Rattle.std.proofs.lemmas.Bool.{cases_Bool, or_parts, eqb-true, ltb-true, false_from_ne_true, both_ways, or_cases, and_parts}
use Rattle.std.specs.List.{list_any, list_all, AllByRecursion}
use Rattle.bags.specs.BagLaws.{each-append}
use Rattle.rdf_meaning.specs.Terms.{RdfTerm, same_term}
use Rattle.rdf_meaning.specs.TermLaws.{same_term-is}
use Rattle.query_meaning.specs.declared.pattern.Slot.{Slot}
use Rattle.query_meaning.specs.declared.pattern.Slot.TheVariants.{Var, Const}
use Rattle.query_eval_meaning.specs.Mapping.{Mapping, width}
use Rattle.query_eval_meaning.specs.Leaf.{is_variable}
use Rattle.query_eval_meaning.specs.Width.{slot_in_width}
use Rattle.query_eval_meaning.specs.Variables.{IsOver}
use Rattle.query_plan_meaning.specs.declared.star.Arm.{Arm}
use Rattle.query_plan_meaning.specs.Stars.{arm_variables, arms_variables, arm_in_width}
use Rattle.layout_meaning.specs.Columns.{ColumnsOf}
use Rattle.sql_gen_step_laws.specs.Carried.{Ids, Over}
use Rattle.sql_gen_step_laws.specs.StepSelects.{has}
use Rattle.sql_gen_star_meaning.specs.declared.arm.Asked.TheVariants.{Again, New}
use Rattle.sql_gen_star_meaning.specs.Asked.{Askable, asked_vars, asked_slot, asked_maybe, IsEntity}
use Rattle.sql_gen_star_meaning.specs.Openings.{openings_from, open_vars, AllAskable}
use Rattle.sql_gen_star_solution_laws.specs.StarArms.{IsConstant, IsArm, required_arms, required_vars, optional_arms, IsFresh, AllFresh}
use Rattle.query_algebra_laws.specs.MappingLaws.{none-is}
use Rattle.sql_gen_star_solution_laws.proofs.StarSols.{has_last}

parts_out : (vs : List ℕ) (w v : ℕ) → has (vs ++ w ∷ []) v ≡ false → (has vs v ≡ false) × ((v == w) ≡ false)
parts_out vs w v e = or_parts (has vs v) (v == w) (sym (has_last vs w v) ∙ e)

pub slot_out : (ids : Ids) (vs : List ℕ) (y : Slot) (v : ℕ) → has (asked_vars (asked_slot ids vs y) vs) v ≡ false → (has vs v ≡ false) × (is_variable v y ≡ false)
slot_out ids vs (Const c) v h = (h, refl)
slot_out ids vs (Var w) v h = go (cases_Bool (has vs w))
  where
    go : (has vs w ≡ true) ⊎ (has vs w ≡ false) → (has vs v ≡ false) × ((v == w) ≡ false)
    go (inl e) =
        let k : has vs v ≡ false = subst (λ (b : Bool). has (asked_vars (if b then Again w else New w) vs) v ≡ false) e h in
        (k, false_from_ne_true _ (λ q. let same : v ≡ w = eqb-true v w q in both_ways (has vs w) (subst (λ (u : ℕ). has vs u ≡ false) same k) e))
    go (inr e) = parts_out vs w v (subst (λ (b : Bool). has (asked_vars (if b then Again w else New w) vs) v ≡ false) e h)

maybe_out : (ids : Ids) (vs : List ℕ) (y : Slot) (v : ℕ) → has (asked_vars (asked_maybe ids y) vs) v ≡ false → (has vs v ≡ false) × (is_variable v y ≡ false)
maybe_out ids vs (Const c) v h = (h, refl)
maybe_out ids vs (Var w) v h = parts_out vs w v h

const_out : (q : Slot) → IsConstant q → (v : ℕ) → is_variable v q ≡ false
const_out (Var w) ok v = absurd ok
const_out (Const c) ok v = refl

arm_out : (a : Arm) → IsArm a → (v : ℕ) → is_variable v a.value ≡ false → arm_variables a v ≡ false
arm_out a ok v h = ap (λ (b : Bool). b || is_variable v a.value) (const_out a.pred ok.constant v) ∙ h

optional_out : (columns : ColumnsOf) (ids : Ids) (qs : List Arm) → AllByRecursion IsArm qs → (i : ℕ) (vs : List ℕ) (v : ℕ) → has (open_vars vs (openings_from i (optional_arms columns ids qs))) v ≡ false → (has vs v ≡ false) × (arms_variables qs v ≡ false)
optional_out columns ids [] ok i vs v h = (h, refl)
optional_out columns ids (a ∷ qs) ok i vs v h =
    let r = optional_out columns ids qs ok.1 (suc i) (asked_vars (asked_maybe ids a.value) vs) v h in
    let k = maybe_out ids vs a.value v r.0 in
    (k.0, ap (λ (b : Bool). b || arms_variables qs v) (arm_out a ok.0 v k.1) ∙ r.1)

pub arms_out : (columns : ColumnsOf) (ids : Ids) (qs : List Arm) → AllByRecursion IsArm qs → (ps : List Arm) → AllByRecursion IsArm ps → (i : ℕ) (vs : List ℕ) (v : ℕ) →
    has (open_vars vs (openings_from i (required_arms columns ids vs ps ++ optional_arms columns ids qs))) v ≡ false → (has vs v ≡ false) × ((arms_variables ps v ≡ false) × (arms_variables qs v ≡ false))
arms_out columns ids qs oq [] op i vs v h = let r = optional_out columns ids qs oq i vs v h in (r.0, (refl, r.1))
arms_out columns ids qs oq (a ∷ ps) op i vs v h =
    let r = arms_out columns ids qs oq ps op.1 (suc i) (asked_vars (asked_slot ids vs a.value) vs) v h in
    let k = slot_out ids vs a.value v r.0 in
    (k.0, (ap (λ (b : Bool). b || arms_variables ps v) (arm_out a op.0 v k.1) ∙ r.1.0, r.1.1))

pub entity_out : (ids : Ids) (x : Slot) (v : ℕ) → has (asked_vars (asked_slot ids [] x) []) v ≡ false → is_variable v x ≡ false
entity_out ids x v h = (slot_out ids [] x v h).1

-- ---- variables are below the width

below_more : (vs : List ℕ) (w : ℕ) → AllByRecursion (λ v. v < width) vs → w < width → AllByRecursion (λ v. v < width) (vs ++ w ∷ [])
below_more vs w all l = each-append (λ v. v < width) vs (w ∷ []) all (l, tt)

pub slot_below : (ids : Ids) (vs : List ℕ) (y : Slot) → slot_in_width y ≡ true → AllByRecursion (λ v. v < width) vs → AllByRecursion (λ v. v < width) (asked_vars (asked_slot ids vs y) vs)
slot_below ids vs (Const c) e all = all
slot_below ids vs (Var w) e all = go (has vs w)
  where
    go : (b : Bool) → AllByRecursion (λ v. v < width) (asked_vars (if b then Again w else New w) vs)
    go true = all
    go false = below_more vs w all (ltb-true w width e)

maybe_below : (ids : Ids) (vs : List ℕ) (y : Slot) → slot_in_width y ≡ true → AllByRecursion (λ v. v < width) vs → AllByRecursion (λ v. v < width) (asked_vars (asked_maybe ids y) vs)
maybe_below ids vs (Const c) e all = all
maybe_below ids vs (Var w) e all = below_more vs w all (ltb-true w width e)

value_below : (a : Arm) → IsArm a → slot_in_width a.value ≡ true
value_below a ok = (and_parts (slot_in_width a.pred) (slot_in_width a.value) ok.below).1

optional_below : (columns : ColumnsOf) (ids : Ids) (qs : List Arm) → AllByRecursion IsArm qs → (i : ℕ) (vs : List ℕ) → AllByRecursion (λ v. v < width) vs → AllByRecursion (λ v. v < width) (open_vars vs (openings_from i (optional_arms columns ids qs)))
optional_below columns ids [] ok i vs all = all
optional_below columns ids (a ∷ qs) ok i vs all = optional_below columns ids qs ok.1 (suc i) (asked_vars (asked_maybe ids a.value) vs) (maybe_below ids vs a.value (value_below a ok.0) all)

pub arms_below : (columns : ColumnsOf) (ids : Ids) (qs : List Arm) → AllByRecursion IsArm qs → (ps : List Arm) → AllByRecursion IsArm ps → (i : ℕ) (vs : List ℕ) → AllByRecursion (λ v. v < width) vs →
    AllByRecursion (λ v. v < width) (open_vars vs (openings_from i (required_arms columns ids vs ps ++ optional_arms columns ids qs)))
arms_below columns ids qs oq [] op i vs all = optional_below columns ids qs oq i vs all
arms_below columns ids qs oq (a ∷ ps) op i vs all = arms_below columns ids qs oq ps op.1 (suc i) (asked_vars (asked_slot ids vs a.value) vs) (slot_below ids vs a.value (value_below a op.0) all)

pub all_below : (arms : List Arm) → AllByRecursion IsArm arms → list_all arm_in_width arms ≡ true
all_below [] ok = refl
all_below (a ∷ arms) ok = rw (ok.0.below) (all_below arms ok.1)

-- ---- the arms ask rightly

pub slot_askable : (ids : Ids) (vs : List ℕ) (y : Slot) → Askable vs (asked_slot ids vs y)
slot_askable ids vs (Const c) = tt
slot_askable ids vs (Var v) = go (cases_Bool (has vs v))
  where
    go : (has vs v ≡ true) ⊎ (has vs v ≡ false) → Askable vs (if has vs v then Again v else New v)
    go (inl e) = rw e e
    go (inr e) = rw e e

maybe_askable : (ids : Ids) (vs : List ℕ) (y : Slot) → IsFresh vs y → Askable vs (asked_maybe ids y)
maybe_askable ids vs (Const c) f = absurd f
maybe_askable ids vs (Var v) f = f

optional_askable : (columns : ColumnsOf) (ids : Ids) (qs : List Arm) (vs : List ℕ) (i : ℕ) → AllFresh ids vs qs → AllAskable vs (openings_from i (optional_arms columns ids qs))
optional_askable columns ids [] vs i f = tt
optional_askable columns ids (a ∷ qs) vs i f = (maybe_askable ids vs a.value f.0, optional_askable columns ids qs (asked_vars (asked_maybe ids a.value) vs) (suc i) f.1)

pub all_askable : (columns : ColumnsOf) (ids : Ids) (qs ps : List Arm) (vs : List ℕ) (i : ℕ) → AllFresh ids (required_vars ids vs ps) qs → AllAskable vs (openings_from i (required_arms columns ids vs ps ++ optional_arms columns ids qs))
all_askable columns ids qs [] vs i f = optional_askable columns ids qs vs i f
all_askable columns ids qs (a ∷ ps) vs i f = (slot_askable ids vs a.value, all_askable columns ids qs ps (asked_vars (asked_slot ids vs a.value) vs) (suc i) f)

pub is_entity : (ids : Ids) (x : Slot) → IsEntity (asked_slot ids [] x)
is_entity ids (Const c) = tt
is_entity ids (Var v) = tt

-- ---- from sets of variables to lists

among : (known : RdfTerm → Bool) (t : RdfTerm) (ts : List RdfTerm) → AllByRecursion (λ e. known e ≡ true) ts → list_any (same_term t) ts ≡ true → known t ≡ true
among known t [] all h = cc
among known t (u ∷ ts) all h = go (or_cases (same_term t u) (list_any (same_term t) ts) h) (among known t ts all.1)
  where
    go : (same_term t u ≡ true) ⊎ (list_any (same_term t) ts ≡ true) → (list_any (same_term t) ts ≡ true → known t ≡ true) → known t ≡ true
    go (inl q) ih = subst (λ (e : RdfTerm). known e ≡ true) (sym (same_term-is t u q)) all.0
    go (inr q) ih = ih q

pub listed_over : (variables : ℕ → Bool) (vs : List ℕ) → ((v : ℕ) → has vs v ≡ false → variables v ≡ false) → (known : RdfTerm → Bool) (ts : List RdfTerm) → AllByRecursion (λ e. known e ≡ true) ts → (m : Mapping) → IsOver variables ts m → Over vs known m
listed_over variables vs out known ts all m h = record {
  bound = λ v e. none-is (m v) (false_from_ne_true _ (λ some. both_ways (variables v) (out v e) (h.alone v some)));
  known_terms = λ v t e. among known t ts all (h.known v t e);
}
