-- An Either star: one access step, and a chain of steps for each of its two lists of arms.
use Rattle.std.specs.Prelude.{zero, ◌&&◌, ◌++◌, ◌+◌, ◌<◌, ◌==◌, ◌∷◌, ◌≡◌, ◌≤◌, ◌||◌, ◌^◌, if◌then◌else◌, nat_le, not, Bool, List, None, Ok, Some, [], false, is_some, length, map, refl, suc, true, ℕ}
use Rattle.std.proofs.Common.{◌∙◌, ap, ap₂, arith, length-append, subst, sym}
use Rattle.std.proofs.lemmas.Bool.{and_from, and_parts, eq-eqb, eqb-true, false_from_ne_true, leb-true}
use Rattle.std.proofs.lemmas.List.{append-nil}
use Rattle.std.specs.List.{AllByRecursion, list_all}
use Rattle.std.specs.Str.{bytes_eq}
use Rattle.bags.specs.BagLaws.{each-append, each-weaker}
use Rattle.rdf_meaning.specs.Terms.{RdfTriple}
use Rattle.rdf_meaning.specs.declared.side.SideName.{SideName}
use Rattle.rdf_meaning.specs.declared.side.SideName.TheVariants.{Direct, Reverse}
use Rattle.table_meaning.specs.Names.{is_name, body_words, source_words, order_words, value_words, test_words, case_words}
use Rattle.table_meaning.specs.Tables.{NamedTable}
use Rattle.table_meaning.specs.declared.schema.Column.{Column}
use Rattle.layout_meaning.specs.Columns.{ColumnsOf}
use Rattle.layout_meaning.specs.Facts.{FactsOf, IdOf}
use Rattle.layout_standing_meaning.specs.Dictionary.{has_term, id_of}
use Rattle.layout_standing_meaning.specs.Schemas.{LayoutOf, list_schema, primary_schema}
use Rattle.layout_facts_meaning.specs.Facts.{HaveFacts}
use Rattle.query_meaning.specs.declared.pattern.Slot.{Slot}
use Rattle.query_meaning.specs.declared.pattern.Slot.TheVariants.{Var, Const}
use Rattle.query_eval_meaning.specs.Mapping.{Mapping, width}
use Rattle.query_eval_meaning.specs.Variables.{Binds, Variables}
use Rattle.query_eval_meaning.specs.Width.{slot_in_width}
use Rattle.query_plan_meaning.specs.declared.star.Arm.{Arm}
use Rattle.query_plan_meaning.specs.declared.star.Star.{Star}
use Rattle.query_plan_meaning.specs.declared.star.StarBody.TheVariants.{Either}
use Rattle.query_plan_meaning.specs.Plans.{is_constant}
use Rattle.query_plan_meaning.specs.Stars.{arm_in_width, arms_of, star_certain, star_sols, stars_certain}
use Rattle.sql_meaning.specs.declared.script.Body.{Body}
use Rattle.sql_meaning.specs.declared.script.Core.{Core}
use Rattle.sql_meaning.specs.declared.script.Step.{Step}
use Rattle.sql_meaning.specs.Scripts.{all_of, body_refs, core_refs, is_primary, step_refs, total}
use Rattle.sql_rows_meaning.specs.Rows.{after_steps}
use Rattle.sql_rows_meaning.specs.Scopes.{Schemas, with_schema}
use Rattle.sql_rows_meaning.specs.Tables.{Relations, relations_of}
use Rattle.sql_gen_meaning.specs.Compilable.{AreColumns, arm_is_told, is_told}
use Rattle.sql_gen_step_laws.specs.Carried.{Carries, Ids, Name}
use Rattle.sql_gen_step_laws.specs.StepSelects.{both, has, union_body}
use Rattle.sql_gen_binding_laws.specs.StepBinds.{once-both, union_fine}
use Rattle.sql_gen_binding_laws.specs.StepColumns.{Once, step_schema}
use Rattle.sql_gen_chain_laws.specs.Chains.{SameBase}
use Rattle.sql_gen_chain_binding_laws.specs.StepsBind.{StepsBind, no_step, one_step}
use Rattle.sql_gen_chain_binding_laws.proofs.Behind.{append-bind, other-bind}
use Rattle.sql_gen_form_laws.specs.Fits.{AreVariables, CoreFits, step_fits}
use Rattle.sql_gen_form_laws.proofs.Joins.{union-fits, union-no_refs}
use Rattle.sql_gen_form_laws.proofs.Parts.{both-variables}
use Rattle.sql_gen_form_laws.proofs.Bodies.{body-fits, lone-body, step-fits}
use Rattle.sql_gen_star_meaning.specs.declared.arm.Asked.{Asked}
use Rattle.sql_gen_star_meaning.specs.declared.arm.StarArm.{StarArm}
use Rattle.sql_gen_star_meaning.specs.Asked.{asked_slot, asked_vars}
use Rattle.sql_gen_star_meaning.specs.Openings.{AllAskable, AreReadable, Opening, access_arm, access_arms, arms_last, arms_steps, cells_of, last_name, open_vars, openings_from}
use Rattle.sql_gen_star_meaning.specs.Partials.{AccessArm}
use Rattle.sql_gen_star_meaning.specs.StarSelects.{access_core}
use Rattle.sql_gen_open_laws.proofs.Chain.{lengths}
use Rattle.sql_gen_star_solution_laws.specs.StarArms.{IsArm, IsConstant, entity_vars, first_arm, optional_arms, other_arms, required_arms, pred_columns, pred_number, star_arm}
use Rattle.sql_gen_star_laws.specs.StarSteps.{ArmsOf, IsStar, star_arms, star_last, star_steps, star_vars}
use Rattle.sql_gen_star_laws.proofs.Bound.{all_askable}
use Rattle.sql_gen_star_laws.proofs.StarCarries.{each_arm, within}
use Rattle.sql_gen_either_laws.specs.EitherSteps.{Half, arms_in, half_arms, half_numbers, left_steps, right_steps, two_chains, united_number}
use Rattle.sql_gen_either_laws.proofs.EitherCarries.{either_carries}
use Rattle.sql_gen_either_laws.proofs.TwoChains.{cells_left, cells_right}
use Rattle.sql_gen_star_fit_laws.specs.Fitting.{contents_of_side}
use Rattle.sql_gen_star_fit_laws.proofs.Fits.{is_star}
use Rattle.sql_gen_star_fit_laws.proofs.Readable.{either_readable}
use Rattle.sql_gen_star_form_laws.specs.StarForms.{ArmFits, AskedFits, ColumnFits}
use Rattle.sql_gen_star_form_laws.proofs.Access.{access-fits, access-refs, vars-below}
use Rattle.sql_gen_star_form_laws.proofs.Cells.{cells-read}
use Rattle.sql_gen_star_binding_laws.specs.StarColumns.{partial_schema}
use Rattle.sql_gen_star_binding_laws.proofs.AccessBinds.{access_fine}
use Rattle.sql_gen_star_binding_laws.proofs.InSight.{no-cells}
use Rattle.sql_gen_star_binding_laws.proofs.Parts.{entity_once}
use Rattle.sql_gen_numbered_meaning.proofs.Apart.{different}
use Rattle.sql_gen_numbered_meaning.proofs.Written.{from-append, not_named, written-apart}
use Rattle.sql_gen_numbered_meaning.specs.Namings.{KeepsApart, is_table}
use Rattle.sql_gen_numbered_meaning.specs.Numbered.{lists_name, primary_name, written, written_from}
use Rattle.sql_gen_numbered_meaning.specs.NumberedStars.{numbered_last, numbered_openings}
use Rattle.sql_gen_numbered_meaning.specs.declared.numbered.NumberedBody.{NumberedBody}
use Rattle.sql_gen_numbered_meaning.specs.declared.numbered.NumberedBody.TheVariants.{United}
use Rattle.sql_gen_out_laws.proofs.Chained.{all-behind, no-primary, total-behind}
use Rattle.sql_gen_out_laws.specs.Outs.{AreFree, BindsTo, HasTables, Out, StandsOut, count}
use Rattle.sql_gen_star_out_laws.specs.StarOuts.{either_out, told_columns, told_id}
use Rattle.sql_gen_star_out_laws.proofs.ArmStars.{access-step, access-within, all-parts, arm-fits, cells-once, cells_behind, certain-of, is-primary, length-arms, length-behind, primary-name}
use Rattle.sql_gen_star_out_laws.proofs.Asked.{AreFine, IsAsked, columns-fine, lists-there, primary-there, side-there}
use Rattle.sql_gen_star_out_laws.proofs.Openings.{AllFit, itself, kept, last-opened, length-opened, lists-apart, lone-binds, opened-bind, opened-fit, opened-refs, opened-written}
use Rattle.sql_gen_star_out_laws.proofs.Told.{AreTold, columns-told, all-named, arms-same, slot-same, told-is, told-wide}
use Rattle.sql_gen_star_out_laws.proofs.Variables.{AreWide, arms-fit, once-opened, opened-below, slot-fits}

-- the name of the last step of a chain, by its number
named-last : (name : ℕ → Name) (n before : ℕ) (os : List Opening) → last_name name n (name before) os ≡ name (numbered_last n before os)
named-last name n before [] = refl
named-last name n before (a ∷ os) = let q : suc n ≡ n + 1 = omega arith in ap (λ m. last_name name m (name n) os) q ∙ named-last name (n + 1) n os

length-half : (columns : ColumnsOf) (ids : Ids) (x : Slot) (h : Half) → length (half_numbers columns ids x h) ≡ length (arms_in h)
length-half columns ids x h = let l = length-arms columns ids (entity_vars ids x) [] (arms_in h) in omega arith

-- a list of arms is a star of required arms
half-star : (ids : Ids) (x : Slot) (h : Half) → slot_in_width x ≡ true → list_all arm_in_width (arms_in h) ≡ true → list_all (λ (a : Arm). is_constant a.pred) (arms_in h) ≡ true → IsStar ids x (half_arms h)
half-star ids x h xw w e = is_star ids x (half_arms h) xw (ap (list_all arm_in_width) (append-nil (arms_in h)) ∙ w) (ap (list_all (λ (a : Arm). is_constant a.pred)) (append-nil (arms_in h)) ∙ e) tt

module _ (facts : FactsOf) (ids : List IdOf) (fine : AreFine facts ids) (x : Slot) (side : SideName) (l r : Half) where
  abbrev star_is : Star
  star_is = record { entity = x; side = side; body = Either (arms_in l) (arms_in r) }

  module _ (asked : IsAsked facts ids star_is) (constants : list_all (λ (a : Arm). is_constant a.pred) (arms_of star_is.body) ≡ true) where
    abbrev columns : ColumnsOf
    columns = told_columns facts side

    abbrev tid : Ids
    tid = told_id ids

    abbrev entity : Asked
    entity = asked_slot tid [] x

    abbrev lefts : List StarArm
    lefts = half_numbers columns tid x l

    abbrev rights : List StarArm
    rights = half_numbers columns tid x r

    abbrev all_arms : List StarArm
    all_arms = lefts ++ rights

    abbrev cells : List ℕ
    cells = cells_of (openings_from 0 all_arms)

    abbrev vs : List ℕ
    vs = entity_vars tid x

    abbrev first : List Opening
    first = openings_from 0 lefts

    abbrev second : List Opening
    second = openings_from (length lefts) rights

    abbrev left_vars_are : List ℕ
    left_vars_are = open_vars vs first

    abbrev right_vars_are : List ℕ
    right_vars_are = open_vars vs second

    abbrev out : Out
    out = either_out facts ids star_is l r

    abbrev spilled : Bool
    spilled = nat_le (length (arms_of star_is.body)) 1

    abbrev lefts_steps : List NumberedBody
    lefts_steps = numbered_openings side 1 0 vs first

    abbrev rights_steps : List NumberedBody
    rights_steps = numbered_openings side (1 + length lefts) 0 vs second

    abbrev left_last_is : ℕ
    left_last_is = numbered_last 1 0 first

    abbrev right_last_is : ℕ
    right_last_is = numbered_last (1 + length lefts) 0 second

    abbrev access : Core
    access = access_core (primary_name side) (not spilled) entity (access_arms all_arms) cells

    below : (slot_in_width x ≡ true) × (list_all arm_in_width (arms_of star_is.body) ≡ true)
    below = and_parts _ _ asked.in_width

    widths : (list_all arm_in_width (arms_in l) ≡ true) × (list_all arm_in_width (arms_in r) ≡ true)
    widths = all-parts arm_in_width (arms_in l) (arms_in r) below.1

    fixed : (list_all (λ (a : Arm). is_constant a.pred) (arms_in l) ≡ true) × (list_all (λ (a : Arm). is_constant a.pred) (arms_in r) ≡ true)
    fixed = all-parts (λ (a : Arm). is_constant a.pred) (arms_in l) (arms_in r) constants

    pub left-star : (is : Ids) → IsStar is x (half_arms l)
    left-star is = half-star is x l below.0 widths.0 fixed.0

    pub right-star : (is : Ids) → IsStar is x (half_arms r)
    right-star is = half-star is x r below.0 widths.1 fixed.1

    wide : AreWide tid
    wide = told-wide ids fine.wide

    entity-fits : AskedFits entity
    entity-fits = slot-fits tid wide [] x below.0

    lengths-are : length lefts + length rights ≤ 100
    lengths-are = let few : length (arms_of star_is.body) ≤ 100 = leb-true _ 100 asked.few in omega (arith, few, length-append (arms_in l) (arms_in r), length-half columns tid x l, length-half columns tid x r)

    left-fit : AllFit first
    left-fit = arms-fit columns tid wide [] tt (arms_in l) (left-star tid).required vs 0 (omega (arith, lengths-are, length-half columns tid x l))

    right-fit : AllFit second
    right-fit = arms-fit columns tid wide [] tt (arms_in r) (right-star tid).required vs (length lefts) (omega (arith, lengths-are, length-half columns tid x r))

    left-ask : AllAskable vs first
    left-ask = all_askable columns tid [] (arms_in l) vs 0 tt

    right-ask : AllAskable vs second
    right-ask = all_askable columns tid [] (arms_in r) vs (length lefts) tt

    within-all : AllByRecursion (λ (b : StarArm). AllByRecursion (λ c. c < columns.count) b.columns) all_arms
    within-all = each-append (λ (b : StarArm). AllByRecursion (λ c. c < columns.count) b.columns) lefts rights (within columns tid x (half_arms l) (left-star tid) (columns-fine facts ids fine side).within) (within columns tid x (half_arms r) (right-star tid) (columns-fine facts ids fine side).within)

    fit-half : (h : Half) → IsStar tid x (half_arms h) → AllByRecursion (λ (b : StarArm). ArmFits (access_arm b)) (half_numbers columns tid x h)
    fit-half h is = each_arm (λ (b : StarArm). ArmFits (access_arm b)) IsArm columns tid (λ q a ok. arm-fits columns (columns-fine facts ids fine side) tid wide q a ok) [] tt (arms_in h) is.required vs

    arm-all : AllByRecursion (λ (b : StarArm). ArmFits (access_arm b)) all_arms
    arm-all = each-append (λ (b : StarArm). ArmFits (access_arm b)) lefts rights (fit-half l (left-star tid)) (fit-half r (right-star tid))

    length-first : length first ≡ length lefts
    length-first = lengths 0 lefts

    length-second : length second ≡ length rights
    length-second = lengths (length lefts) rights

    length-lefts : length lefts_steps ≡ length lefts
    length-lefts = length-opened side 1 0 vs first ∙ length-first

    length-rights : length rights_steps ≡ length rights
    length-rights = length-opened side (1 + length lefts) 0 vs second ∙ length-second

    abbrev union_is : NumberedBody
    union_is = United left_last_is right_last_is left_vars_are right_vars_are

    counted : count out ≡ length lefts + length rights + 2
    counted = omega (arith, length-append lefts_steps (rights_steps ++ union_is ∷ []), length-append rights_steps (union_is ∷ []), length-lefts, length-rights)

    some-lefts : 1 ≤ length lefts
    some-lefts = omega arith

    some-rights : 1 ≤ length rights
    some-rights = omega arith

    left-last : left_last_is ≡ length lefts
    left-last = let e : left_last_is ≡ 1 + length (cells_behind first) = last-opened 1 0 (record { number = 0; asked = (first_arm columns tid x l.first).asked }) (cells_behind first) in omega (arith, e, length-first, length-behind first (omega (arith, length-first, some-lefts)))

    right-last : right_last_is ≡ length lefts + length rights
    right-last =
        let e : right_last_is ≡ 1 + length lefts + length (cells_behind second) = last-opened (1 + length lefts) 0 (record { number = length lefts; asked = (first_arm columns tid x r.first).asked }) (cells_behind second) in
        omega (arith, e, length-second, length-behind second (omega (arith, length-second, some-rights)))

    -- ---- as they are written

    abbrev union-step-is : (ℕ → Name) → Step
    union-step-is name = record { name = name (1 + length lefts + length rights); body = union_body (name left_last_is) (name right_last_is) left_vars_are right_vars_are }

    abbrev access-is : (ℕ → Name) → Step
    access-is name = access-step name side (not spilled) entity (access_arms all_arms) cells

    split : (name : ℕ → Name) → written name out.steps ≡ access-is name ∷ (written_from name 1 lefts_steps ++ (written_from name (1 + length lefts) rights_steps ++ union-step-is name ∷ []))
    split name =
        let a : 1 + length lefts_steps ≡ 1 + length lefts = omega (arith, length-lefts) in
        let b : 1 + length lefts + length rights_steps ≡ 1 + length lefts + length rights = omega (arith, length-rights) in
        ap (λ (ss : List Step). access-is name ∷ ss) (from-append name 1 lefts_steps (rights_steps ++ union_is ∷ [])
        ∙ ap (λ (rest : List Step). written_from name 1 lefts_steps ++ rest) (ap (λ m. written_from name m (rights_steps ++ union_is ∷ [])) a ∙ from-append name (1 + length lefts) rights_steps (union_is ∷ [])
        ∙ ap (λ m. written_from name (1 + length lefts) rights_steps ++ written_from name m (union_is ∷ [])) b))

    chains : (name : ℕ → Name) → written name out.steps ≡ two_chains name (primary_name side) (lists_name side) 0 (not spilled) entity lefts rights
    chains name =
        split name
        ∙ ap (λ (ss : List Step). access-is name ∷ (ss ++ (written_from name (1 + length lefts) rights_steps ++ union-step-is name ∷ []))) (opened-written name side 1 0 vs first)
        ∙ ap (λ (ss : List Step). access-is name ∷ (left_steps name (lists_name side) 0 entity lefts ++ (ss ++ union-step-is name ∷ []))) (opened-written name side (1 + length lefts) 0 vs second)
        ∙ ap₂ (λ (a b : Name). access-is name ∷ (left_steps name (lists_name side) 0 entity lefts ++ (right_steps name (lists_name side) 0 entity lefts rights
        ++ record { name = name (1 + length lefts + length rights); body = union_body a b left_vars_are right_vars_are } ∷ []))) (sym (named-last name 1 0 first)) (sym (named-last name (1 + length lefts) 0 second))

    -- ---- sums and forms

    lower : (i : ℕ) → i < length lefts + length rights + 2 → i < count out
    lower i u = omega (arith, counted)

    same-refs : (name : ℕ → Name) → KeepsApart (count out) name → total (map step_refs (written name out.steps)) ≡ 1
    same-refs name k =
        let e : core_refs access ≡ 1 = access-refs (primary_name side) (is-primary side) (not spilled) entity (access_arms all_arms) cells in
        let a : total (map step_refs (written_from name 1 lefts_steps)) ≡ 0 = opened-refs name side 1 0 vs first (omega arith) (λ i u. no-primary (name i) (k.no_table i (lower i (omega (arith, u, length-first))))) in
        let b : total (map step_refs (written_from name (1 + length lefts) rights_steps)) ≡ 0 = opened-refs name side (1 + length lefts) 0 vs second (omega arith) (λ i u. no-primary (name i) (k.no_table i (lower i (omega (arith, u, length-second))))) in
        let c : body_refs (union_body (name left_last_is) (name right_last_is) left_vars_are right_vars_are) ≡ 0 =
        union-no_refs (name left_last_is) (name right_last_is) (no-primary (name left_last_is) (k.no_table left_last_is (lower left_last_is (omega (arith, left-last)))))
        (no-primary (name right_last_is) (k.no_table right_last_is (lower right_last_is (omega (arith, right-last))))) left_vars_are right_vars_are in
        let p : total (map step_refs (written_from name (1 + length lefts) rights_steps ++ union-step-is name ∷ [])) ≡ 0 = omega (arith, total-behind step_refs (written_from name (1 + length lefts) rights_steps) (union-step-is name ∷ []), b, c) in
        let q : total (map step_refs (written_from name 1 lefts_steps ++ (written_from name (1 + length lefts) rights_steps ++ union-step-is name ∷ []))) ≡ 0 =
        omega (arith, total-behind step_refs (written_from name 1 lefts_steps) (written_from name (1 + length lefts) rights_steps ++ union-step-is name ∷ []), a, p) in
        let z : total (map step_refs (access-is name ∷ (written_from name 1 lefts_steps ++ (written_from name (1 + length lefts) rights_steps ++ union-step-is name ∷ [])))) ≡ 1 = omega (arith, e, q) in
        ap (λ (ss : List Step). total (map step_refs ss)) (split name) ∙ z

    left-below : AreVariables left_vars_are
    left-below = opened-below vs first (vars-below entity entity-fits [] tt) left-fit

    right-below : AreVariables right_vars_are
    right-below = opened-below vs second (vars-below entity entity-fits [] tt) right-fit

    forms : (name : ℕ → Name) → ((i : ℕ) → i < count out → is_name (name i) ≡ true) → all_of step_fits (written name out.steps) ≡ true
    forms name h =
        let f : CoreFits 4 access = access-fits (primary_name side) (primary-name side) (not spilled) entity entity-fits (access_arms all_arms) cells (cells-read all_arms arm-all (omega (arith, lengths-are, length-append lefts rights))) in
        let whole : Body = record { cores = access ∷ [] } in
        let united : Body = union_body (name left_last_is) (name right_last_is) left_vars_are right_vars_are in
        let g : step_fits (access-is name) ≡ true = step-fits (access-is name) (h 0 (lower 0 (omega arith))) (body-fits 4 whole (omega arith) (lone-body 4 access f)) in
        let a = opened-fit name side 1 0 vs first (omega arith) (λ i u. h i (lower i (omega (arith, u, length-first)))) (vars-below entity entity-fits [] tt) left-fit in
        let b = opened-fit name side (1 + length lefts) 0 vs second (omega arith) (λ i u. h i (lower i (omega (arith, u, length-second)))) (vars-below entity entity-fits [] tt) right-fit in
        let c : step_fits (union-step-is name) ≡ true = step-fits (union-step-is name) (h (1 + length lefts + length rights) (lower (1 + length lefts + length rights) (omega arith)))
        (body-fits 1 united (omega arith) (union-fits (name left_last_is) (name right_last_is) (h left_last_is (lower left_last_is (omega (arith, left-last)))) (h right_last_is (lower right_last_is (omega (arith, right-last)))) left_vars_are right_vars_are left-below right-below)) in
        ap (all_of step_fits) (split name)
        ∙ and_from _ _ g (all-behind step_fits (written_from name 1 lefts_steps) (written_from name (1 + length lefts) rights_steps ++ union-step-is name ∷ []) a
        (all-behind step_fits (written_from name (1 + length lefts) rights_steps) (union-step-is name ∷ []) b (and_from _ true c refl)))

    -- ---- binding

    other-name : (name : ℕ → Name) → KeepsApart (count out) name → (i j : ℕ) → i < count out → j < count out → ((i == j) ≡ false) → bytes_eq (name i) (name j) ≡ false
    other-name name k i j p q e = k.own i j p q ∙ e

    unlike : (i j : ℕ) → (i ≡ j → ⊥) → (i == j) ≡ false
    unlike i j other = false_from_ne_true _ (λ e. absurd (other (eqb-true i j e)))

    plain : (i : ℕ) → i ≡ 0 + i
    plain i = omega arith

    binds : (name : ℕ → Name) → KeepsApart (count out) name → (s : Schemas) → HasTables facts s → AreFree name 0 (count out) s → BindsTo (written name out.steps) s (name out.last) (step_schema out.variables)
    binds name k s ht free =
        let cols : List Column = partial_schema vs cells in
        let n2 : ℕ = 1 + length lefts in
        let n3 : ℕ = 1 + length lefts + length rights in
        let bound = access_fine s (primary_name side) columns.count (primary-there facts s ht side) (not spilled) entity (access_arms all_arms) (access-within columns.count all_arms within-all) cells (cells-once 0 all_arms) in
        let s0 : Schemas = with_schema (name 0) cols s in
        let here0 : s0 (name 0) ≡ Some cols = ap (λ (b : Bool). if b then Some cols else s (name 0)) (itself (name 0)) in
        let lists0 : s0 (lists_name side) ≡ Some list_schema = kept (lists_name side) (name 0) cols s (lists-apart side (name 0) (k.no_table 0 (lower 0 (omega arith)))) ∙ lists-there facts s ht side in
        let free0 : (i : ℕ) → 1 ≤ i → i < count out → is_some (s0 (name i)) ≡ false =
        λ i p u. ap is_some (kept (name i) (name 0) cols s (k.own i 0 u (lower 0 (omega arith)) ∙ unlike i 0 (λ e. omega arith))) ∙ ap (λ n. is_some (s (name n))) (plain i) ∙ free i u in
        let left = opened-bind name side (count out) 1 0 vs cells first k (omega (arith, counted, length-first)) (omega arith) s0 here0 lists0 (λ i u. free0 (1 + i) (omega arith) (lower (1 + i) (omega (arith, u, length-first)))) (entity_once entity)
        (cells_left 0 lefts rights) (cells-once 0 lefts) left-ask (λ e. cc) in
        let s1 : Schemas = left.after in
        let kept1 : (i : ℕ) → i < count out → ((j : ℕ) → 1 ≤ j → j < 1 + length lefts → (i == j) ≡ false) → s1 (name i) ≡ s0 (name i) =
        λ i u apart. other-bind (written_from name 1 lefts_steps) s0 s1 left.bind (name i) (not_named name (name i) 1 lefts_steps (λ j p q. k.own i j u (lower j (omega (arith, q, length-lefts))) ∙ apart j p (omega (arith, q, length-lefts)))) in
        let here1 : s1 (name 0) ≡ Some cols = kept1 0 (lower 0 (omega arith)) (λ j p q. unlike 0 j (λ e. omega arith)) ∙ here0 in
        let lists1 : s1 (lists_name side) ≡ Some list_schema =
        other-bind (written_from name 1 lefts_steps) s0 s1 left.bind (lists_name side) (not_named name (lists_name side) 1 lefts_steps (λ j p q. lists-apart side (name j) (k.no_table j (lower j (omega (arith, q, length-lefts)))))) ∙ lists0 in
        let free1 : (i : ℕ) → n2 ≤ i → i < count out → is_some (s1 (name i)) ≡ false = λ i p u. ap is_some (kept1 i u (λ j a b. unlike i j (λ e. omega arith))) ∙ free0 i (omega arith) u in
        let right = opened-bind name side (count out) n2 0 vs cells second k (omega (arith, counted, length-second)) (omega arith) s1 here1 lists1 (λ i u. free1 (n2 + i) (omega arith) (lower (n2 + i) (omega (arith, u, length-second)))) (entity_once entity)
        (cells_right 0 lefts rights (length lefts) (omega arith)) (cells-once (length lefts) rights) right-ask (λ e. cc) in
        let s2 : Schemas = right.after in
        let kept2 : (i : ℕ) → i < count out → ((j : ℕ) → n2 ≤ j → j < n3 → (i == j) ≡ false) → s2 (name i) ≡ s1 (name i) =
        λ i u apart. other-bind (written_from name n2 rights_steps) s1 s2 right.bind (name i) (not_named name (name i) n2 rights_steps (λ j p q. k.own i j u (lower j (omega (arith, q, length-rights))) ∙ apart j p (omega (arith, q, length-rights)))) in
        let left_there : s2 (name left_last_is) ≡ Some (step_schema left_vars_are) =
        kept2 left_last_is (lower left_last_is (omega (arith, left-last))) (λ j p q. unlike left_last_is j (λ e. omega (arith, left-last))) ∙ left.there ∙ ap (λ (cs : List Column). Some cs) (no-cells left_vars_are) in
        let right_there : s2 (name right_last_is) ≡ Some (step_schema right_vars_are) = right.there ∙ ap (λ (cs : List Column). Some cs) (no-cells right_vars_are) in
        let free2 : is_some (s2 (name n3)) ≡ false = ap is_some (kept2 n3 (lower n3 (omega arith)) (λ j p q. unlike n3 j (λ e. omega arith))) ∙ free1 n3 (omega arith) (lower n3 (omega arith)) in
        let s3 : Schemas = with_schema (name n3) (step_schema out.variables) s2 in
        let last_bind = one_step (union-step-is name) [] s2 s3 (step_schema out.variables) free2
        (λ n. union_fine s2 n (name left_last_is) (name right_last_is) left_vars_are right_vars_are left_there right_there (once-opened vs first (entity_once entity) left-ask) (once-opened vs second (entity_once entity) right-ask)) (no_step s3) in
        let rest = append-bind (written_from name 1 lefts_steps) (written_from name n2 rights_steps ++ union-step-is name ∷ []) s0 s1 s3 left.bind (append-bind (written_from name n2 rights_steps) (union-step-is name ∷ []) s1 s2 s3 right.bind last_bind) in
        record {
          after = s3;
          bind = subst (λ (ss : List Step). StepsBind ss s s3) (sym (split name)) (one_step (access-is name) _ s s3 cols (free 0 (lower 0 (omega arith))) (lone-binds s access cols bound) rest);
          there = ap (λ (b : Bool). if b then Some (step_schema out.variables) else s2 (name n3)) (itself (name n3));
        }

    -- ---- what they carry

    told-parts : (is_told ids x ≡ true) × (list_all (arm_is_told ids) (arms_of star_is.body) ≡ true)
    told-parts = and_parts _ _ asked.told

    carries : (name : ℕ → Name) → KeepsApart (count out) name → (layout : LayoutOf) (tables : List NamedTable) (g : List RdfTriple) → (d : HaveFacts layout tables g ids facts) → (t : Relations) → SameBase is_table (relations_of tables) t →
        Carries (id_of d.contents.terms) (has_term d.contents.terms) out.variables (star_sols g star_is) (after_steps (written name out.steps) t (name out.last))
    carries name k layout tables g d t same =
        let st = side-there layout tables g ids facts d side t same in
        let eid : Ids = id_of d.contents.terms in
        let told : AreTold ids tid eid = told-is layout tables g ids facts d in
        let parts = all-parts (arm_is_told ids) (arms_in l) (arms_in r) told-parts.1 in
        let el : lefts ≡ half_numbers columns eid x l = arms-same ids tid eid told columns x (half_arms l) told-parts.0 parts.0 refl in
        let er : rights ≡ half_numbers columns eid x r = arms-same ids tid eid told columns x (half_arms r) told-parts.0 parts.1 refl in
        let q : asked_slot tid [] x ≡ asked_slot eid [] x = slot-same ids tid eid told [] x told-parts.0 in
        let readable = either_readable layout tables g ids facts d side x l.first l.others r.first r.others asked.plain (all-named ids (arms_of star_is.body) told-parts.1) in
        let read_left = subst (λ (c : ColumnsOf). AreReadable (contents_of_side side d.contents) (not spilled) (first_arm c eid x l.first) (other_arms c eid x l.first l.others [])) (columns-told layout tables g ids facts d side) readable.0 in
        let read_right = subst (λ (c : ColumnsOf). AreReadable (contents_of_side side d.contents) (not spilled) (first_arm c eid x r.first) (other_arms c eid x r.first r.others [])) (columns-told layout tables g ids facts d side) readable.1 in
        let fine_columns = columns-fine facts ids fine side in
        let nl : length lefts ≡ length (half_numbers columns eid x l) = ap (λ (ns : List StarArm). length ns) el in
        let nr : length rights ≡ length (half_numbers columns eid x r) = ap (λ (ns : List StarArm). length ns) er in
        let whole = either_carries columns d.contents.terms (contents_of_side side d.contents) d.same_triples.own_terms st.stands side g st.says d.same_triples.ids x l r (left-star eid) (right-star eid) (not spilled) read_left read_right
        fine_columns.countable fine_columns.within name (primary_name side) (lists_name side) 0 t st.held (λ m u. lists-apart side (name m) (k.no_table m (lower m (omega (arith, u, nl, nr)))))
        (λ i j u v. k.own i j (lower i (omega (arith, u, v, nl, nr))) (lower j (omega (arith, v, nl, nr))) ∙ unlike i j (λ e. omega arith)) in
        let Has : Asked → List StarArm → List StarArm → Type 0 =
        λ y ns ms. Carries eid (has_term d.contents.terms) (both (open_vars (asked_vars y []) (openings_from 0 ns)) (open_vars (asked_vars y []) (openings_from (length ns) ms))) (star_sols g star_is)
        (after_steps (two_chains name (primary_name side) (lists_name side) 0 (not spilled) y ns ms) t (name (united_number 0 ns ms))) in
        let one : Has (asked_slot eid [] x) lefts (half_numbers columns eid x r) = subst (λ (ns : List StarArm). Has (asked_slot eid [] x) ns (half_numbers columns eid x r)) (sym el) whole in
        let two : Has (asked_slot eid [] x) lefts rights = subst (λ (ns : List StarArm). Has (asked_slot eid [] x) lefts ns) (sym er) one in
        let three : Has entity lefts rights = subst (λ (y : Asked). Has y lefts rights) (sym q) two in
        subst (λ (ss : List Step). Carries eid (has_term d.contents.terms) out.variables (star_sols g star_is) (after_steps ss t (name out.last))) (sym (chains name)) three

    pub either-stand : StandsOut facts ids (λ g. star_sols g star_is) 1 out
    either-stand = record {
      last_there = omega (arith, counted);
      once = once-both left_vars_are right_vars_are (once-opened vs first (entity_once entity) left-ask) (once-opened vs second (entity_once entity) right-ask);
      in_width = both-variables left_vars_are right_vars_are left-below right-below;
      bound = certain-of star_is;
      same_refs = same-refs;
      forms = λ name k h. forms name h;
      binds = binds;
      stands = λ name k layout tables g d. record { carries = λ t same. carries name k layout tables g d t same; apart = written-apart name (count out) 0 out.steps k (omega arith) };
    }
