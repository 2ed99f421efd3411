-- A star of one arm whose predicate is a variable.
use Rattle.std.specs.Prelude.{zero, ◌&&◌, ◌++◌, ◌+◌, ◌<◌, ◌==◌, ◌∷◌, ◌≡◌, ◌≤◌, ◌||◌, ◌^◌, if◌then◌else◌, nat_le, not, Bool, List, None, Ok, Some, [], false, is_some, length, map, refl, suc, true, ℕ}
use Rattle.std.proofs.Common.{◌∙◌, ◌⊎◌, inl, inr, ap, ap₂, arith, length-append, subst, sym}
use Rattle.std.proofs.lemmas.Bool.{and_from, and_parts, cases_Bool, eq-eqb, eqb-true, false_from_ne_true, leb-true}
use Rattle.std.specs.List.{AllByRecursion, list_all}
use Rattle.std.specs.Str.{bytes_eq}
use Rattle.bags.specs.BagLaws.{each-weaker}
use Rattle.rdf_meaning.specs.Terms.{RdfTriple}
use Rattle.rdf_meaning.specs.declared.side.SideName.{SideName}
use Rattle.rdf_meaning.specs.declared.side.SideName.TheVariants.{Direct, Reverse}
use Rattle.table_meaning.specs.Names.{is_name, body_words, source_words, order_words, value_words, test_words, case_words}
use Rattle.table_meaning.specs.Tables.{NamedTable}
use Rattle.table_meaning.specs.declared.schema.Column.{Column}
use Rattle.layout_meaning.specs.Columns.{ColumnsOf}
use Rattle.layout_meaning.specs.Facts.{FactsOf, IdOf}
use Rattle.layout_standing_meaning.specs.Dictionary.{has_term, id_of}
use Rattle.layout_standing_meaning.specs.Schemas.{LayoutOf, primary_schema}
use Rattle.layout_facts_meaning.specs.Facts.{HaveFacts}
use Rattle.query_meaning.specs.declared.pattern.Slot.{Slot}
use Rattle.query_meaning.specs.declared.pattern.Slot.TheVariants.{Var, Const}
use Rattle.query_eval_meaning.specs.Mapping.{Mapping, width}
use Rattle.query_eval_meaning.specs.Variables.{Binds, Variables}
use Rattle.query_eval_meaning.specs.Width.{slot_in_width}
use Rattle.query_plan_meaning.specs.declared.star.Arm.{Arm}
use Rattle.query_plan_meaning.specs.declared.star.Star.{Star}
use Rattle.query_plan_meaning.specs.declared.star.StarBody.TheVariants.{Both}
use Rattle.query_plan_meaning.specs.Plans.{is_constant}
use Rattle.query_plan_meaning.specs.Stars.{arm_in_width, arms_of, star_certain, star_sols, stars_certain}
use Rattle.sql_meaning.specs.declared.script.Core.{Core}
use Rattle.sql_meaning.specs.declared.script.Step.{Step}
use Rattle.sql_meaning.specs.Scripts.{all_of, body_refs, is_primary, step_refs, total}
use Rattle.sql_rows_meaning.specs.Rows.{after_steps}
use Rattle.sql_rows_meaning.specs.Scopes.{Schemas, with_schema}
use Rattle.sql_rows_meaning.specs.Tables.{Relations, relations_of}
use Rattle.sql_gen_meaning.specs.Compilable.{AreColumns, arm_is_told, is_told}
use Rattle.sql_gen_step_laws.specs.Carried.{Carries, Ids, Name}
use Rattle.sql_gen_step_laws.specs.StepSelects.{has}
use Rattle.sql_gen_binding_laws.specs.StepColumns.{Once, step_schema}
use Rattle.sql_gen_chain_laws.specs.Chains.{SameBase}
use Rattle.sql_gen_chain_binding_laws.specs.StepsBind.{StepsBind, one_step}
use Rattle.sql_gen_form_laws.specs.Fits.{AreVariables, BodyFits, step_fits}
use Rattle.sql_gen_form_laws.proofs.Bodies.{body-fits, step-fits}
use Rattle.sql_gen_star_meaning.specs.declared.arm.Asked.{Asked}
use Rattle.sql_gen_star_meaning.specs.declared.arm.Asked.TheVariants.{Again, New}
use Rattle.sql_gen_star_meaning.specs.declared.arm.StarArm.{StarArm}
use Rattle.sql_gen_star_meaning.specs.Asked.{Askable, IsPredicate, asked_slot, asked_vars}
use Rattle.sql_gen_star_meaning.specs.Openings.{AllAskable, Opening, cells_of, opening_steps}
use Rattle.sql_gen_star_meaning.specs.PairSelects.{pairs_body}
use Rattle.sql_gen_star_solution_laws.specs.StarArms.{pair_entity, pair_predicate, pair_value}
use Rattle.sql_gen_star_laws.proofs.Bound.{slot_askable}
use Rattle.sql_gen_star_laws.proofs.PairCarries.{pair_carries}
use Rattle.sql_gen_star_fit_laws.specs.Fitting.{contents_of_side}
use Rattle.sql_gen_star_fit_laws.proofs.Distinct.{distinct}
use Rattle.sql_gen_star_form_laws.specs.StarForms.{ArmFits, AskedFits, ColumnFits}
use Rattle.sql_gen_star_form_laws.proofs.Access.{vars-below}
use Rattle.sql_gen_star_form_laws.proofs.Pairs.{pairs-fit, pairs-refs}
use Rattle.sql_gen_star_binding_laws.specs.StarColumns.{partial_schema}
use Rattle.sql_gen_star_binding_laws.proofs.PairsBind.{pairs_fine}
use Rattle.sql_gen_star_binding_laws.proofs.InSight.{no-cells}
use Rattle.sql_gen_star_binding_laws.proofs.Parts.{asked_once, entity_once}
use Rattle.sql_gen_numbered_meaning.proofs.Apart.{different}
use Rattle.sql_gen_numbered_meaning.proofs.Written.{written-apart}
use Rattle.sql_gen_numbered_meaning.specs.Namings.{KeepsApart, is_table}
use Rattle.sql_gen_numbered_meaning.specs.Numbered.{lists_name, primary_name, written, written_from}
use Rattle.sql_gen_numbered_meaning.specs.NumberedStars.{numbered_arms, numbered_last, numbered_openings}
use Rattle.sql_gen_out_laws.proofs.Chained.{no-primary}
use Rattle.sql_gen_out_laws.specs.Outs.{AreFree, BindsTo, HasTables, Out, StandsOut, count}
use Rattle.sql_gen_star_out_laws.specs.StarOuts.{pairs_out, told_columns, told_id}
use Rattle.sql_gen_star_out_laws.proofs.ArmStars.{certain-of, is-primary, primary-name}
use Rattle.sql_gen_star_out_laws.proofs.Asked.{AreFine, IsAsked, columns-fine, lists-there, primary-there, side-there}
use Rattle.sql_gen_star_out_laws.proofs.Openings.{AllFit, itself, kept, last-opened, length-opened, lists-apart, lone-binds, opened-bind, opened-fit, opened-refs, opened-written}
use Rattle.sql_gen_star_out_laws.proofs.Told.{AreTold, columns-told, all-named, arms-same, slot-same, told-is, told-wide}
use Rattle.sql_gen_star_out_laws.proofs.Variables.{AreWide, arms-fit, once-opened, opened-below, slot-fits}

-- a predicate that is a variable
variable-predicate : (ids : Ids) (entity : Asked) (v : ℕ) → IsPredicate entity (asked_slot ids (asked_vars entity []) (Var v))
variable-predicate ids entity v = go (cases_Bool (has (asked_vars entity []) v))
  where
    go : (has (asked_vars entity []) v ≡ true) ⊎ (has (asked_vars entity []) v ≡ false) → IsPredicate entity (asked_slot ids (asked_vars entity []) (Var v))
    go (inl h) = subst (λ (b : Bool). IsPredicate entity (if b then Again v else New v)) (sym h) h
    go (inr h) = subst (λ (b : Bool). IsPredicate entity (if b then Again v else New v)) (sym h) h

module _ (facts : FactsOf) (ids : List IdOf) (fine : AreFine facts ids) (x : Slot) (side : SideName) (number v : ℕ) (value : Slot) where
  abbrev arm_is : Arm
  arm_is = record { pattern = number; pred = Var v; value = value }

  abbrev star_is : Star
  star_is = record { entity = x; side = side; body = Both (arm_is ∷ []) [] }

  module _ (asked : IsAsked facts ids star_is) where
    abbrev columns : ColumnsOf
    columns = told_columns facts side

    abbrev tid : Ids
    tid = told_id ids

    abbrev entity : Asked
    entity = pair_entity tid x

    abbrev predicate : Asked
    predicate = pair_predicate tid x arm_is

    abbrev its_value : Asked
    its_value = pair_value tid x arm_is

    abbrev vs : List ℕ
    vs = asked_vars predicate (asked_vars entity [])

    abbrev os : List Opening
    os = record { number = 0; asked = its_value } ∷ []

    abbrev out : Out
    out = pairs_out facts ids star_is arm_is

    below : (slot_in_width x ≡ true) × (list_all arm_in_width (arm_is ∷ []) ≡ true)
    below = and_parts _ _ asked.in_width

    arm-below : arm_in_width arm_is ≡ true
    arm-below = (and_parts (arm_in_width arm_is) true below.1).0

    parts-below : (slot_in_width (Var v) ≡ true) × (slot_in_width value ≡ true)
    parts-below = and_parts _ _ arm-below

    wide : AreWide tid
    wide = told-wide ids fine.wide

    entity-fits : AskedFits entity
    entity-fits = slot-fits tid wide [] x below.0

    predicate-fits : AskedFits predicate
    predicate-fits = slot-fits tid wide (asked_vars entity []) (Var v) parts-below.0

    value-fits : AskedFits its_value
    value-fits = slot-fits tid wide vs value parts-below.1

    all-fit : AllFit os
    all-fit = ((omega arith, value-fits), tt)

    vs-below : AreVariables vs
    vs-below = vars-below predicate predicate-fits (asked_vars entity []) (vars-below entity entity-fits [] tt)

    vs-once : Once vs
    vs-once = asked_once (asked_vars entity []) predicate (entity_once entity) (slot_askable tid (asked_vars entity []) (Var v))

    ask : AllAskable vs os
    ask = (slot_askable tid vs value, tt)

    some : 0 < columns.count
    some = let l = (columns-fine facts ids fine side).some in omega arith

    abbrev pairs-step : (name : ℕ → Name) → Step
    pairs-step name = record { name = name 0; body = pairs_body (primary_name side) entity predicate columns.count }

    same-refs : (name : ℕ → Name) → KeepsApart 2 name → total (map step_refs (written name out.steps)) ≡ columns.count
    same-refs name k =
        let e : body_refs (pairs_body (primary_name side) entity predicate columns.count) ≡ columns.count = pairs-refs (primary_name side) (is-primary side) entity predicate columns.count in
        let r : total (map step_refs (written_from name 1 (numbered_openings side 1 0 vs os))) ≡ 0 = opened-refs name side 1 0 vs os (omega arith) (λ i u. no-primary (name i) (k.no_table i (omega arith))) in
        omega arith

    forms : (name : ℕ → Name) → ((i : ℕ) → i < 2 → is_name (name i) ≡ true) → all_of step_fits (written name out.steps) ≡ true
    forms name h =
        let f : BodyFits 4 (pairs_body (primary_name side) entity predicate columns.count) = pairs-fit (primary_name side) (primary-name side) entity predicate entity-fits predicate-fits columns.count (columns-fine facts ids fine side).some (columns-fine facts ids fine side).countable in
        and_from _ _ (step-fits (pairs-step name) (h 0 (omega arith)) (body-fits 4 (pairs_body (primary_name side) entity predicate columns.count) (omega arith) f))
        (opened-fit name side 1 0 vs os (omega arith) (λ i u. h i (omega arith)) vs-below all-fit)

    binds : (name : ℕ → Name) → KeepsApart 2 name → (s : Schemas) → HasTables facts s → AreFree name 0 2 s → BindsTo (written name out.steps) s (name 1) (step_schema out.variables)
    binds name k s ht free =
        let cols : List Column = partial_schema vs (0 ∷ []) in
        let after : Schemas = with_schema (name 0) cols s in
        let rest = opened-bind name side 2 1 0 vs (0 ∷ []) os k (omega arith) (omega arith) after
        (ap (λ (b : Bool). if b then Some cols else s (name 0)) (itself (name 0)))
        (kept (lists_name side) (name 0) cols s (lists-apart side (name 0) (k.no_table 0 (omega arith))) ∙ lists-there facts s ht side)
        (λ i u. ap is_some (kept (name (1 + i)) (name 0) cols s (k.own (1 + i) 0 (omega arith) (omega arith) ∙ later i)) ∙ ap (λ n. is_some (s (name n))) (moved i) ∙ free (1 + i) (omega arith))
        vs-once (λ j h. h) (refl, tt) ask (λ e. ap cells_of e) in
        record {
          after = rest.after;
          bind = one_step (pairs-step name) _ s rest.after cols (free 0 (omega arith)) (λ n. pairs_fine s n (primary_name side) columns.count some (primary-there facts s ht side) entity predicate (variable-predicate tid entity v)) rest.bind;
          there = rest.there ∙ ap (λ (cs : List Column). Some cs) (no-cells out.variables);
        }
      where
        later : (i : ℕ) → (1 + i == 0) ≡ false
        later i = false_from_ne_true _ (λ e. let q : 1 + i ≡ 0 = eqb-true (1 + i) 0 e in absurd (omega arith))

        moved : (i : ℕ) → 1 + i ≡ 0 + (1 + i)
        moved i = omega arith

    told-parts : (is_told ids x ≡ true) × (list_all (arm_is_told ids) (arm_is ∷ []) ≡ true)
    told-parts = and_parts _ _ asked.told

    value-told : is_told ids value ≡ true
    value-told = (and_parts (is_told ids (Var v)) (is_told ids value) (and_parts (arm_is_told ids arm_is) true told-parts.1).0).1

    carries : (name : ℕ → Name) → KeepsApart 2 name → (layout : LayoutOf) (tables : List NamedTable) (g : List RdfTriple) → (d : HaveFacts layout tables g ids facts) → (t : Relations) → SameBase is_table (relations_of tables) t →
        Carries (id_of d.contents.terms) (has_term d.contents.terms) out.variables (star_sols g star_is) (after_steps (written name out.steps) t (name 1))
    carries name k layout tables g d t same =
        let st = side-there layout tables g ids facts d side t same in
        let eid : Ids = id_of d.contents.terms in
        let told : AreTold ids tid eid = told-is layout tables g ids facts d in
        let q : asked_slot tid [] x ≡ asked_slot eid [] x = slot-same ids tid eid told [] x told-parts.0 in
        let whole = pair_carries columns d.contents.terms (contents_of_side side d.contents) d.same_triples.own_terms st.stands side g (distinct g d.same_triples.triples) st.says d.same_triples.ids x below.0 arm_is arm-below tt
        some (columns-fine facts ids fine side).countable name (primary_name side) (lists_name side) 0 t st.held (λ m l. lists-apart side (name m) (k.no_table m (omega (arith, l)))) in
        let Has : Asked → Asked → Type 0 =
        λ y z. let us : List ℕ = asked_vars (asked_slot tid (asked_vars y []) (Var v)) (asked_vars y []) in
        Carries eid (has_term d.contents.terms) (asked_vars z us) (star_sols g star_is)
        (after_steps (record { name = name 0; body = pairs_body (primary_name side) y (asked_slot tid (asked_vars y []) (Var v)) columns.count } ∷ opening_steps name (lists_name side) 1 (name 0) us (record { number = 0; asked = z } ∷ [])) t (name 1)) in
        let us_of : Asked → List ℕ = λ y. asked_vars (asked_slot tid (asked_vars y []) (Var v)) (asked_vars y []) in
        let first : Has (asked_slot eid [] x) (asked_slot tid (us_of (asked_slot eid [] x)) value) =
        subst (λ (z : Asked). Has (asked_slot eid [] x) z) (sym (slot-same ids tid eid told (us_of (asked_slot eid [] x)) value value-told)) whole in
        let second : Has entity its_value = subst (λ (y : Asked). Has y (asked_slot tid (us_of y) value)) (sym q) first in
        subst (λ (ss : List Step). Carries eid (has_term d.contents.terms) out.variables (star_sols g star_is) (after_steps (pairs-step name ∷ ss) t (name 1))) (sym (opened-written name side 1 0 vs os)) second

    pub pairs-stand : StandsOut facts ids (λ g. star_sols g star_is) columns.count out
    pairs-stand = record {
      last_there = omega arith;
      once = asked_once vs its_value vs-once (slot_askable tid vs value);
      in_width = vars-below its_value value-fits vs vs-below;
      bound = certain-of star_is;
      same_refs = same-refs;
      forms = λ name k h. forms name h;
      binds = binds;
      stands = λ name k layout tables g d. record { carries = λ t same. carries name k layout tables g d t same; apart = written-apart name 2 0 out.steps k (omega arith) };
    }
