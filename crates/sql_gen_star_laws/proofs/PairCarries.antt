-- The steps of a star with a variable predicate carry its solutions.
use Rattle.std.proofs.Common.{◌≡◌, ℕ, suc, ◌+◌, ◌^◌, ◌<◌, ◌⊎◌, true, false, if◌then◌else◌, List, [], ◌∷◌, map, sym, refl, subst, arith, inl, inr, bytes_eq}
use Rattle.std.proofs.lemmas.Bool.{cases_Bool, and_parts}
use Rattle.std.specs.List.{flat_map, AllByRecursion, IsDistinct}
use Rattle.bags.specs.Bag.{SameBag}
use Rattle.bags.specs.BagLaws.{same-trans, each-weaker}
use Rattle.rdf_meaning.specs.Terms.{RdfTriple, same_triple}
use Rattle.rdf_meaning.specs.declared.side.SideName.{SideName}
use Rattle.query_meaning.specs.declared.pattern.Slot.{Slot}
use Rattle.query_meaning.specs.declared.pattern.Slot.TheVariants.{Var, Const}
use Rattle.query_eval_meaning.specs.Leaf.{terms_of, is_variable}
use Rattle.query_eval_meaning.specs.Width.{slot_in_width}
use Rattle.query_eval_meaning.specs.Variables.{IsOver}
use Rattle.query_plan_meaning.specs.declared.star.Arm.{Arm}
use Rattle.query_plan_meaning.specs.declared.star.Star.{Star}
use Rattle.query_plan_meaning.specs.declared.star.StarBody.TheVariants.{Both}
use Rattle.query_plan_meaning.specs.Stars.{both_sols, star_variables, arm_in_width, star_in_width}
use Rattle.query_star_laws.specs.StarVariables.{star-over}
use Rattle.sql_rows_meaning.specs.Tables.{Relation, Relations, with_relation}
use Rattle.sql_rows_meaning.specs.Rows.{body_relation, after_steps}
use Rattle.layout_meaning.specs.Columns.{ColumnsOf}
use Rattle.layout_standing_meaning.specs.Dictionary.{Entry, AreEntries, HasIds, id_of, has_term}
use Rattle.layout_standing_meaning.specs.Contents.{SideContents, said, element_cells}
use Rattle.layout_standing_meaning.specs.Standing.{SideStands}
use Rattle.sql_gen_step_laws.specs.Carried.{Name, Ids, Over, Carries}
use Rattle.sql_gen_step_laws.specs.StepSelects.{has}
use Rattle.layout_table_laws.proofs.Readable.{readable}
use Rattle.sql_gen_star_meaning.specs.declared.arm.Asked.TheVariants.{Again, New}
use Rattle.sql_gen_star_meaning.specs.Asked.{asked_slot, IsPredicate}
use Rattle.sql_gen_star_meaning.specs.SideTables.{list_columns, HoldsSide}
use Rattle.sql_gen_star_meaning.specs.Partials.{HoldsPartials, all_pairs, open_arm}
use Rattle.sql_gen_star_meaning.specs.PairSelects.{pairs_body}
use Rattle.sql_gen_open_laws.proofs.PairStep.{pair_step}
use Rattle.sql_gen_open_laws.proofs.Chain.{openings_hold, own_relation, other_relation}
use Rattle.sql_gen_star_number_laws.proofs.PairItems.{pair_items_held}
use Rattle.sql_gen_star_solution_laws.specs.StarArms.{entity_vars, pair_entity, pair_predicate, pair_value, side_item}
use Rattle.sql_gen_star_solution_laws.proofs.WholeStar.{each_known, known_triples}
use Rattle.sql_gen_star_solution_laws.proofs.PairSolutions.{pairs_solve}
use Rattle.sql_gen_star_laws.specs.StarSteps.{pair_vars, pair_steps, pair_last, pair_all_vars, IsVariable}
use Rattle.sql_gen_star_laws.proofs.Bound.{slot_out, slot_below, slot_askable, entity_out, is_entity, listed_over}
use Rattle.sql_gen_star_laws.proofs.StarCarries.{numbers_carry}

is_predicate : (ids : Ids) (x : Slot) (q : Slot) → IsVariable q → IsPredicate (asked_slot ids [] x) (asked_slot ids (entity_vars ids x) q)
is_predicate ids x (Const c) ok = absurd ok
is_predicate ids x (Var v) ok = go (cases_Bool (has (entity_vars ids x) v))
  where
    go : (has (entity_vars ids x) v ≡ true) ⊎ (has (entity_vars ids x) v ≡ false) → IsPredicate (asked_slot ids [] x) (if has (entity_vars ids x) v then Again v else New v)
    go (inl e) = rw e e
    go (inr e) = rw e e

pub pair_carries : (columns : ColumnsOf) (es : List Entry) (s : SideContents) → AreEntries es → SideStands columns es s → (side : SideName) (g : List RdfTriple) → IsDistinct same_triple g → SameBag (said s) (map (side_item side (id_of es)) g) → AllByRecursion (HasIds es) g →
    (x : Slot) → slot_in_width x ≡ true → (a : Arm) → arm_in_width a ≡ true → IsVariable a.pred → 0 < columns.count → columns.count < 2 ^ 64 →
    (name : ℕ → Name) (primary lists : Name) (n : ℕ) (relations : Relations) → HoldsSide columns.count s (relations primary) (relations lists) → ((m : ℕ) → m < n + 2 → bytes_eq lists (name m) ≡ false) →
    Carries (id_of es) (has_term es) (pair_all_vars (id_of es) x a) (both_sols g x side (a ∷ []) []) (after_steps (pair_steps name primary lists n columns.count (id_of es) x a) relations (pair_last name n))
pair_carries columns es s h st side g distinct f all x xw a aw av some few name primary lists n relations tables fresh =
    let ids = id_of es in
    let E = pair_entity ids x in
    let P = pair_predicate ids x a in
    let V = pair_value ids x a in
    let us = pair_vars ids x a in
    let vs = pair_all_vars ids x a in
    let ok : IsPredicate E P = is_predicate ids x a.pred av in
    let made : Relation = body_relation relations (pairs_body primary E P columns.count) in
    let kept : with_relation (name n) made relations lists ≡ relations lists = other_relation (name n) lists made relations (fresh n (omega arith)) in
    let pairs : HoldsPartials s.lists us (0 ∷ []) (all_pairs E P s.rows) (with_relation (name n) made relations (name n)) =
    subst (HoldsPartials s.lists us (0 ∷ []) (all_pairs E P s.rows)) (sym (own_relation (name n) made relations)) (pair_step relations primary lists columns.count s some few tables (readable columns es s st) E P (is_entity ids x) ok) in
    let held = openings_hold name lists s.lists (with_relation (name n) made relations) (subst (λ (t : Relation). t.columns ≡ list_columns) (sym kept) tables.list_names)
    (subst (λ (t : Relation). SameBag t.rows (flat_map element_cells s.lists)) (sym kept) tables.list_rows) st.lists_once (record { number = 0; asked = V }) [] (suc n) (name n) us (0 ∷ []) (all_pairs E P s.rows) pairs (λ j e. e) (slot_askable ids us a.value, tt)
    (λ m l. fresh m (omega arith)) in
    let star : Star = record { entity = x; side = side; body = Both (a ∷ []) [] } in
    let in_width : star_in_width star ≡ true = rw (xw, aw) refl in
    let out : (v : ℕ) → has vs v ≡ false → star_variables star v ≡ false =
    λ v e.
    let third = slot_out ids us a.value v e in
    let second = slot_out ids (entity_vars ids x) a.pred v third.0 in
    let first : is_variable v x ≡ false = entity_out ids x v second.0 in
    rw (first, second.1, third.1) refl in
    let widths = and_parts (slot_in_width a.pred) (slot_in_width a.value) aw in
    numbers_carry ids (has_term es) s.lists vs (flat_map (open_arm s.lists 0 V) (all_pairs E P s.rows)) (both_sols g x side (a ∷ []) []) (after_steps (pair_steps name primary lists n columns.count ids x a) relations (pair_last name n)) held
    (same-trans (pair_items_held s E P V ok) (pairs_solve es h side s g distinct f all x xw a aw))
    (each-weaker (IsOver (star_variables star) (terms_of g)) (Over vs (has_term es)) (listed_over (star_variables star) vs out (has_term es) (terms_of g) (each_known (has_term es) g (known_triples es g all))) (both_sols g x side (a ∷ []) []) (star-over g star in_width))
    (slot_below ids us a.value widths.1 (slot_below ids (entity_vars ids x) a.pred widths.0 (slot_below ids [] x xw tt)))
