-- The variables of a star's last step are those of the star, each once and below the width.
use Rattle.std.specs.Prelude.{◌++◌, ◌+◌, ◌<◌, ◌==◌, ◌||◌, ◌∷◌, ◌≡◌, ◌≤◌, if◌then◌else◌, Bool, List, [], false, length, map, pos, refl, suc, true, ℕ}
use Rattle.std.proofs.Common.{◌∙◌, ◌⊎◌, ap, ap₂, arith, inl, inr, subst, sym}
use Rattle.std.proofs.lemmas.Bool.{and_parts, cases_Bool, eqb-true, ltb-true}
use Rattle.std.specs.List.{AllByRecursion, list_all}
use Rattle.rdf_meaning.specs.Terms.{RdfTerm}
use Rattle.layout_meaning.specs.Columns.{ColumnsOf}
use Rattle.query_meaning.specs.declared.pattern.Slot.{Slot}
use Rattle.query_meaning.specs.declared.pattern.Slot.TheVariants.{Var, Const}
use Rattle.query_eval_meaning.specs.Leaf.{is_variable}
use Rattle.query_eval_meaning.specs.Mapping.{width}
use Rattle.query_eval_meaning.specs.Width.{slot_in_width}
use Rattle.query_plan_meaning.specs.declared.star.Arm.{Arm}
use Rattle.query_plan_meaning.specs.Stars.{arm_variables, arms_variables}
use Rattle.table_meaning.specs.Ints.{is_wide_int}
use Rattle.sql_gen_step_laws.specs.Carried.{Ids}
use Rattle.sql_gen_step_laws.specs.StepSelects.{has}
use Rattle.sql_gen_binding_laws.specs.StepColumns.{Once}
use Rattle.sql_gen_form_laws.specs.Fits.{AreVariables}
use Rattle.sql_gen_star_meaning.specs.declared.arm.Asked.TheVariants.{Again, New}
use Rattle.sql_gen_star_meaning.specs.Asked.{asked_maybe, asked_slot, asked_vars}
use Rattle.sql_gen_star_meaning.specs.Openings.{AllAskable, Opening, open_vars, openings_from}
use Rattle.sql_gen_star_solution_laws.specs.StarArms.{IsArm, IsConstant, entity_vars, optional_arms, required_arms}
use Rattle.sql_gen_star_solution_laws.proofs.StarSols.{has_last}
use Rattle.sql_gen_star_form_laws.specs.StarForms.{AskedFits, TwoDigits}
use Rattle.sql_gen_star_form_laws.proofs.Access.{vars-below}
use Rattle.sql_gen_star_binding_laws.proofs.Parts.{asked_once}
use Rattle.sql_gen_star_out_laws.proofs.Openings.{AllFit}

-- ---- which they are

or_false : (b : Bool) → (b || false) ≡ b
or_false true = refl
or_false false = refl

or_inside : (p q r s : Bool) → ((p || q) || (r || s)) ≡ (p || ((q || r) || s))
or_inside true q r s = refl
or_inside false true r s = refl
or_inside false false r s = refl

pub slot-has : (ids : Ids) (vs : List ℕ) (y : Slot) (v : ℕ) → has (asked_vars (asked_slot ids vs y) vs) v ≡ (has vs v || is_variable v y)
slot-has ids vs (Const c) v = sym (or_false (has vs v))
slot-has ids vs (Var w) v = go (cases_Bool (has vs w))
  where
    there : has vs w ≡ true → ((v == w) ≡ true) ⊎ ((v == w) ≡ false) → has vs v ≡ (has vs v || (v == w))
    there e (inl q) = let h : has vs v ≡ true = subst (λ (u : ℕ). has vs u ≡ true) (sym (eqb-true v w q)) e in rw h refl
    there e (inr q) = rw q (sym (or_false (has vs v)))

    go : (has vs w ≡ true) ⊎ (has vs w ≡ false) → has (asked_vars (asked_slot ids vs (Var w)) vs) v ≡ (has vs v || (v == w))
    go (inl e) = ap (λ (b : Bool). has (asked_vars (if b then Again w else New w) vs) v) e ∙ there e (cases_Bool (v == w))
    go (inr e) = ap (λ (b : Bool). has (asked_vars (if b then Again w else New w) vs) v) e ∙ has_last vs w v

maybe-has : (ids : Ids) (vs : List ℕ) (y : Slot) (v : ℕ) → has (asked_vars (asked_maybe ids y) vs) v ≡ (has vs v || is_variable v y)
maybe-has ids vs (Const c) v = sym (or_false (has vs v))
maybe-has ids vs (Var w) v = has_last vs w v

constant-arm : (a : Arm) → IsArm a → (v : ℕ) → arm_variables a v ≡ is_variable v a.value
constant-arm a ok v = ap (λ (b : Bool). b || is_variable v a.value) (no_variable a.pred ok.constant)
  where
    no_variable : (q : Slot) → IsConstant q → is_variable v q ≡ false
    no_variable (Var w) ok = absurd ok
    no_variable (Const c) ok = refl

optional-has : (columns : ColumnsOf) (ids : Ids) (qs : List Arm) → AllByRecursion IsArm qs → (i : ℕ) (vs : List ℕ) (v : ℕ) →
    has (open_vars vs (openings_from i (optional_arms columns ids qs))) v ≡ (has vs v || arms_variables qs v)
optional-has columns ids [] ok i vs v = sym (or_false (has vs v))
optional-has columns ids (a ∷ qs) ok i vs v =
    optional-has columns ids qs ok.1 (suc i) (asked_vars (asked_maybe ids a.value) vs) v
    ∙ moved (has vs v) (is_variable v a.value) (arms_variables qs v) (maybe-has ids vs a.value v)
    ∙ ap (λ (b : Bool). has vs v || (b || arms_variables qs v)) (sym (constant-arm a ok.0 v))
  where
    moved : (p q r : Bool) {h : Bool} → h ≡ (p || q) → (h || r) ≡ (p || (q || r))
    moved p q r e = ap (λ (b : Bool). b || r) e ∙ assoc p q r
      where
        assoc : (p q r : Bool) → ((p || q) || r) ≡ (p || (q || r))
        assoc true q r = refl
        assoc false q r = refl

pub arms-has : (columns : ColumnsOf) (ids : Ids) (qs : List Arm) → AllByRecursion IsArm qs → (ps : List Arm) → AllByRecursion IsArm ps → (i : ℕ) (vs : List ℕ) (v : ℕ) →
    has (open_vars vs (openings_from i (required_arms columns ids vs ps ++ optional_arms columns ids qs))) v ≡ (has vs v || (arms_variables ps v || arms_variables qs v))
arms-has columns ids qs oq [] op i vs v = optional-has columns ids qs oq i vs v
arms-has columns ids qs oq (a ∷ ps) op i vs v =
    arms-has columns ids qs oq ps op.1 (suc i) (asked_vars (asked_slot ids vs a.value) vs) v
    ∙ ap (λ (b : Bool). b || (arms_variables ps v || arms_variables qs v)) (slot-has ids vs a.value v)
    ∙ or_inside (has vs v) (is_variable v a.value) (arms_variables ps v) (arms_variables qs v)
    ∙ ap (λ (b : Bool). has vs v || ((b || arms_variables ps v) || arms_variables qs v)) (sym (constant-arm a op.0 v))

-- ---- each once, and below the width

pub once-opened : (vs : List ℕ) (os : List Opening) → Once vs → AllAskable vs os → Once (open_vars vs os)
once-opened vs [] once ask = once
once-opened vs (a ∷ os) once ask = once-opened (asked_vars a.asked vs) os (asked_once vs a.asked once ask.0) ask.1

pub opened-below : (vs : List ℕ) (os : List Opening) → AreVariables vs → AllFit os → AreVariables (open_vars vs os)
opened-below vs [] ok all = ok
opened-below vs (a ∷ os) ok all = opened-below (asked_vars a.asked vs) os (vars-below a.asked all.0.1 vs ok) all.1

-- ---- what is asked has a text

-- all ids have one
abbrev pub AreWide : Ids → Type 0
AreWide ids = (t : RdfTerm) → is_wide_int (pos (ids t)) ≡ true

pub slot-fits : (ids : Ids) → AreWide ids → (vs : List ℕ) (y : Slot) → slot_in_width y ≡ true → AskedFits (asked_slot ids vs y)
slot-fits ids wide vs (Const c) e = wide c
slot-fits ids wide vs (Var v) e = go (cases_Bool (has vs v))
  where
    go : (has vs v ≡ true) ⊎ (has vs v ≡ false) → AskedFits (asked_slot ids vs (Var v))
    go (inl h) = subst (λ (b : Bool). AskedFits (if b then Again v else New v)) (sym h) (ltb-true v width e)
    go (inr h) = subst (λ (b : Bool). AskedFits (if b then Again v else New v)) (sym h) (ltb-true v width e)

maybe-fits : (ids : Ids) → AreWide ids → (y : Slot) → slot_in_width y ≡ true → AskedFits (asked_maybe ids y)
maybe-fits ids wide (Const c) e = wide c
maybe-fits ids wide (Var v) e = ltb-true v width e

value-below : (a : Arm) → IsArm a → slot_in_width a.value ≡ true
value-below a ok = (and_parts (slot_in_width a.pred) (slot_in_width a.value) ok.below).1

optional-fit : (columns : ColumnsOf) (ids : Ids) → AreWide ids → (qs : List Arm) → AllByRecursion IsArm qs → (i : ℕ) → i + length qs ≤ 100 → AllFit (openings_from i (optional_arms columns ids qs))
optional-fit columns ids wide [] ok i l = tt
optional-fit columns ids wide (a ∷ qs) ok i l = ((omega arith, maybe-fits ids wide a.value (value-below a ok.0)), optional-fit columns ids wide qs ok.1 (suc i) (omega arith))

pub arms-fit : (columns : ColumnsOf) (ids : Ids) → AreWide ids → (qs : List Arm) → AllByRecursion IsArm qs → (ps : List Arm) → AllByRecursion IsArm ps → (vs : List ℕ) (i : ℕ) → i + (length ps + length qs) ≤ 100 →
    AllFit (openings_from i (required_arms columns ids vs ps ++ optional_arms columns ids qs))
arms-fit columns ids wide qs oq [] op vs i l = optional-fit columns ids wide qs oq i (omega arith)
arms-fit columns ids wide qs oq (a ∷ ps) op vs i l =
    ((omega arith, slot-fits ids wide vs a.value (value-below a op.0)), arms-fit columns ids wide qs oq ps op.1 (asked_vars (asked_slot ids vs a.value) vs) (suc i) (omega arith))
