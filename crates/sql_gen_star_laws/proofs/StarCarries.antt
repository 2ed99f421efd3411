-- The steps of a star carry its solutions.
use Rattle.std.proofs.Common.{◌≡◌, ℕ, ◌+◌, ◌^◌, ◌<◌, Bool, true, false, if◌then◌else◌, ◌||◌, List, [], ◌∷◌, ◌++◌, map, Option, Some, None, length, sym, refl, ap, ap₂, ◌∙◌, subst, pos, bytes_eq}
use Rattle.std.proofs.lemmas.List.{append-nil}
use Rattle.std.specs.List.{AllByRecursion}
use Rattle.bags.specs.Bag.{SameBag}
use Rattle.bags.specs.BagLaws.{total-same, total-map, same-trans, each-weaker, each-append}
use Rattle.rdf_meaning.specs.Terms.{RdfTerm, RdfTriple}
use Rattle.rdf_meaning.specs.declared.side.SideName.{SideName}
use Rattle.query_meaning.specs.declared.pattern.Slot.{Slot}
use Rattle.query_meaning.specs.declared.pattern.Slot.TheVariants.{Var, Const}
use Rattle.query_eval_meaning.specs.Mapping.{Mapping, width}
use Rattle.query_eval_meaning.specs.Leaf.{terms_of, is_variable}
use Rattle.query_eval_meaning.specs.Variables.{IsOver}
use Rattle.query_plan_meaning.specs.declared.star.Arm.{Arm}
use Rattle.query_plan_meaning.specs.declared.star.Star.{Star}
use Rattle.query_plan_meaning.specs.declared.star.StarBody.TheVariants.{Both}
use Rattle.query_plan_meaning.specs.Stars.{both_sols, star_variables, arms_variables, star_in_width}
use Rattle.query_star_laws.specs.StarVariables.{star-over}
use Rattle.table_meaning.specs.declared.cell.Cell.{Cell}
use Rattle.table_meaning.specs.declared.cell.Cell.TheVariants.{Int}
use Rattle.sql_rows_meaning.specs.Tables.{Relation, Relations}
use Rattle.sql_rows_meaning.specs.Rows.{after_steps}
use Rattle.layout_meaning.specs.Columns.{ColumnsOf}
use Rattle.layout_meaning.specs.Side.{ValueLists, find_in_row}
use Rattle.layout_meaning.specs.Rows.{NumberedRow}
use Rattle.layout_standing_meaning.specs.Dictionary.{Entry, AreEntries, HasIds, id_of, has_term}
use Rattle.layout_standing_meaning.specs.Contents.{SideContents, said}
use Rattle.layout_standing_meaning.specs.Standing.{SideStands}
use Rattle.sql_gen_step_laws.specs.Carried.{Name, Ids, column, one, id_cell, carry, Over, Carries}
use Rattle.sql_gen_step_laws.specs.StepSelects.{has}
use Rattle.layout_row_meaning.specs.Reading.{found_in}
use Rattle.layout_table_laws.proofs.Candidates.{finds}
use Rattle.layout_table_laws.proofs.Readable.{readable}
use Rattle.sql_gen_star_meaning.specs.declared.arm.Asked.{Asked}
use Rattle.sql_gen_star_meaning.specs.declared.arm.Asked.TheVariants.{Again, New}
use Rattle.sql_gen_star_meaning.specs.Asked.{IdMapping, asked_slot, asked_vars, asked_maybe, IsRequired}
use Rattle.sql_gen_star_meaning.specs.SideTables.{HoldsSide, id_or_null}
use Rattle.sql_gen_star_meaning.specs.Partials.{Partial, partial_row, HoldsPartials, AccessArm, access_partials}
use Rattle.sql_gen_star_meaning.specs.declared.arm.StarArm.{StarArm}
use Rattle.sql_gen_star_meaning.specs.Openings.{openings_from, access_arms, AccessHas, open_vars, open_all, ArmFinds, AreReadable}
use Rattle.sql_gen_open_laws.proofs.Chain.{arms_hold}
use Rattle.sql_gen_star_number_laws.proofs.Fill.{access_has}
use Rattle.sql_gen_star_number_laws.proofs.ArmRows.{choices}
use Rattle.sql_gen_star_solution_laws.specs.StarArms.{IsConstant, IsArm, pred_number, pred_columns, star_arm, required_arms, optional_arms, entity_vars, first_arm, other_arms, number_of, numbers_of, side_item}
use Rattle.sql_gen_star_solution_laws.proofs.WholeStar.{choices_solve, each_known, known_triples}
use Rattle.sql_gen_star_laws.specs.StarSteps.{ArmsOf, star_arms, star_steps, star_last, star_vars, IsStar, AreWithin}
use Rattle.sql_gen_star_laws.proofs.Bound.{arms_out, entity_out, slot_below, arms_below, all_below, all_askable, is_entity, listed_over}

number-id : (ids : Ids) (o : Option RdfTerm) → id_or_null (number_of ids o) ≡ id_cell ids o
number-id ids None = refl
number-id ids (Some t) = refl

cells-id : (ids : Ids) (m : Mapping) (vs : List ℕ) → map (λ v. id_or_null (numbers_of ids m v)) vs ++ [] ≡ map (λ v. id_cell ids (m v)) vs
cells-id ids m [] = refl
cells-id ids m (v ∷ vs) = ap₂ (λ (c : Cell) (cs : List Cell). c ∷ cs) (number-id ids (m v)) (cells-id ids m vs)

-- partial solutions with no cells left, whose numbers are those of solutions
pub numbers_carry : (ids : Ids) (known : RdfTerm → Bool) (ls : ValueLists) (vs : List ℕ) (ps : List Partial) (ms : List Mapping) (t : Relation) → HoldsPartials ls vs [] ps t →
    SameBag (map (λ (p : Partial). p.numbers) ps) (map (numbers_of ids) ms) → AllByRecursion (Over vs known) ms → AllByRecursion (λ v. v < width) vs → Carries ids known vs ms t
numbers_carry ids known ls vs ps ms t st same over below = record {
  columns = st.columns ∙ ap (λ (ns : List Name). one ∷ ns) (append-nil (map column vs));
  rows = record {
    totals = λ g.
        let K : IdMapping → ℕ = λ n. g (Int (pos 1) ∷ (map (λ v. id_or_null (n v)) vs ++ [])) in
        st.rows.totals g ∙ total-map g (partial_row vs []) ps
        ∙ sym (total-map K (λ (p : Partial). p.numbers) ps) ∙ same.totals K ∙ total-map K (numbers_of ids) ms
        ∙ total-same _ _ (λ m. ap (λ (cs : List Cell). g (Int (pos 1) ∷ cs)) (cells-id ids m vs)) ms
        ∙ sym (total-map g (carry ids vs) ms);
  };
  fits = over;
  below = below;
}

required_asks : (ids : Ids) (vs : List ℕ) (y : Slot) → IsRequired (asked_slot ids vs y)
required_asks ids vs (Const c) = tt
required_asks ids vs (Var v) = go (has vs v)
  where
    go : (b : Bool) → IsRequired (if b then Again v else New v)
    go true = tt
    go false = tt

-- ---- what holds of each arm of a plan holds of it by ids

module _ (P : StarArm → Type 0) (Q : Arm → Type 0) (columns : ColumnsOf) (ids : Ids) (each : (asked : Asked) (a : Arm) → Q a → P (star_arm columns ids asked a)) where
  each_optional : (qs : List Arm) → AllByRecursion Q qs → AllByRecursion P (optional_arms columns ids qs)
  each_optional [] ok = tt
  each_optional (a ∷ qs) ok = (each (asked_maybe ids a.value) a ok.0, each_optional qs ok.1)

  pub each_arm : (qs : List Arm) → AllByRecursion Q qs → (ps : List Arm) → AllByRecursion Q ps → (vs : List ℕ) → AllByRecursion P (required_arms columns ids vs ps ++ optional_arms columns ids qs)
  each_arm qs oq [] op vs = each_optional qs oq
  each_arm qs oq (a ∷ ps) op vs = (each (asked_slot ids vs a.value) a op.0, each_arm qs oq ps op.1 (asked_vars (asked_slot ids vs a.value) vs))

pred_finds : (columns : ColumnsOf) (es : List Entry) (s : SideContents) → AreEntries es → SideStands columns es s → (q : Slot) → IsConstant q →
    AllByRecursion (λ (r : NumberedRow). found_in (pred_number (id_of es) q) r.pairs (pred_columns columns q) ≡ find_in_row (pred_number (id_of es) q) r.pairs) s.rows
pred_finds columns es s h st (Var v) ok = absurd ok
pred_finds columns es s h st (Const c) ok = finds columns es s h st c

pred_within : (columns : ColumnsOf) → AreWithin columns → (q : Slot) → AllByRecursion (λ c. c < columns.count) (pred_columns columns q)
pred_within columns w (Var v) = tt
pred_within columns w (Const c) = w c.text

-- the columns of a star's arms are there
pub within : (columns : ColumnsOf) (ids : Ids) (x : Slot) (arms : ArmsOf) → IsStar ids x arms → AreWithin columns → AllByRecursion (λ (b : StarArm). AllByRecursion (λ c. c < columns.count) b.columns) (star_arms columns ids x arms)
within columns ids x arms is w =
    each_arm (λ (b : StarArm). AllByRecursion (λ c. c < columns.count) b.columns) IsArm columns ids (λ asked a oa. pred_within columns w a.pred) arms.optional is.optional (arms.first ∷ arms.required) is.required (entity_vars ids x)

-- a chain over any access step that has the arms, from any number on, carries the solutions of the arms
pub arms_carry : (columns : ColumnsOf) (es : List Entry) (s : SideContents) → AreEntries es → SideStands columns es s → (side : SideName) (g : List RdfTriple) → SameBag (said s) (map (side_item side (id_of es)) g) → AllByRecursion (HasIds es) g →
    (x : Slot) (arms : ArmsOf) → IsStar (id_of es) x arms → (first : Bool) → AreReadable s first (first_arm columns (id_of es) x arms.first) (other_arms columns (id_of es) x arms.first arms.required arms.optional) →
    (access : ℕ → AccessArm) (i : ℕ) → AccessHas access i (star_arms columns (id_of es) x arms) → (t : Relation) →
    HoldsPartials s.lists (open_vars (entity_vars (id_of es) x) (openings_from i (star_arms columns (id_of es) x arms))) [] (open_all s.lists (openings_from i (star_arms columns (id_of es) x arms)) (access_partials first (asked_slot (id_of es) [] x) access s.rows)) t →
    Carries (id_of es) (has_term es) (open_vars (entity_vars (id_of es) x) (openings_from i (star_arms columns (id_of es) x arms))) (both_sols g x side (arms.first ∷ arms.required) arms.optional) t
arms_carry columns es s h st side g f all x arms is first ok access i has_all t held =
    let ids = id_of es in
    let A = first_arm columns ids x arms.first in
    let rest = other_arms columns ids x arms.first arms.required arms.optional in
    let E = asked_slot ids [] x in
    let vs = open_vars (entity_vars ids x) (openings_from i (A ∷ rest)) in
    let ms = both_sols g x side (arms.first ∷ arms.required) arms.optional in
    let ps = open_all s.lists (openings_from i (A ∷ rest)) (access_partials first E access s.rows) in
    let star : Star = record { entity = x; side = side; body = Both (arms.first ∷ arms.required) arms.optional } in
    let finds_all : AllByRecursion (ArmFinds s) (A ∷ rest) =
    each_arm (ArmFinds s) IsArm columns ids (λ asked a oa. pred_finds columns es s h st a.pred oa.constant) arms.optional is.optional (arms.first ∷ arms.required) is.required (entity_vars ids x) in
    let numbers = choices columns es s st first E A rest (required_asks ids (entity_vars ids x) arms.first.value) ok finds_all access i has_all in
    let solved = choices_solve es h side s g f all columns x is.entity arms.first arms.required arms.optional is.required is.optional is.fresh in
    let in_width : star_in_width star ≡ true = rw (is.entity) (all_below ((arms.first ∷ arms.required) ++ arms.optional) (each-append IsArm (arms.first ∷ arms.required) arms.optional is.required is.optional)) in
    let out : (v : ℕ) → has vs v ≡ false → star_variables star v ≡ false =
    λ v e.
    let r = arms_out columns ids arms.optional is.optional (arms.first ∷ arms.required) is.required i (entity_vars ids x) v e in
    let a : is_variable v x ≡ false = entity_out ids x v r.0 in
    ap (λ (b : Bool). b || (arms_variables (arms.first ∷ arms.required) v || arms_variables arms.optional v)) a ∙ ap (λ (b : Bool). b || arms_variables arms.optional v) r.1.0 ∙ r.1.1 in
    numbers_carry ids (has_term es) s.lists vs ps ms t held
    (same-trans numbers solved)
    (each-weaker (IsOver (star_variables star) (terms_of g)) (Over vs (has_term es)) (listed_over (star_variables star) vs out (has_term es) (terms_of g) (each_known (has_term es) g (known_triples es g all))) ms (star-over g star in_width))
    (arms_below columns ids arms.optional is.optional (arms.first ∷ arms.required) is.required i (entity_vars ids x) (slot_below ids [] x is.entity tt))

-- ---- the law

pub star_carries : (columns : ColumnsOf) (es : List Entry) (s : SideContents) → AreEntries es → SideStands columns es s → (side : SideName) (g : List RdfTriple) → SameBag (said s) (map (side_item side (id_of es)) g) → AllByRecursion (HasIds es) g →
    (x : Slot) (arms : ArmsOf) → IsStar (id_of es) x arms → (first : Bool) → AreReadable s first (first_arm columns (id_of es) x arms.first) (other_arms columns (id_of es) x arms.first arms.required arms.optional) →
    columns.count < 2 ^ 64 → AreWithin columns → (name : ℕ → Name) (primary lists : Name) (n : ℕ) (relations : Relations) → HoldsSide columns.count s (relations primary) (relations lists) →
    ((m : ℕ) → m < n + length (star_arms columns (id_of es) x arms) + 1 → bytes_eq lists (name m) ≡ false) →
    Carries (id_of es) (has_term es) (star_vars columns (id_of es) x arms) (both_sols g x side (arms.first ∷ arms.required) arms.optional)
    (after_steps (star_steps name primary lists n first columns (id_of es) x arms) relations (star_last name n columns (id_of es) x arms))
star_carries columns es s h st side g f all x arms is first ok few wide name primary lists n relations tables fresh =
    let ids = id_of es in
    let A = first_arm columns ids x arms.first in
    let rest = other_arms columns ids x arms.first arms.required arms.optional in
    let held = arms_hold name primary lists n columns.count s relations few tables (readable columns es s st) first (asked_slot ids [] x) (is_entity ids x) A rest (within columns ids x arms is wide)
    (all_askable columns ids arms.optional (arms.first ∷ arms.required) (entity_vars ids x) 0 is.fresh) fresh in
    let has_all : AccessHas (access_arms (A ∷ rest)) 0 (A ∷ rest) = subst (λ (all : List StarArm). AccessHas (access_arms all) 0 (A ∷ rest)) (append-nil (A ∷ rest)) (access_has [] (A ∷ rest) []) in
    arms_carry columns es s h st side g f all x arms is first ok (access_arms (A ∷ rest)) 0 has_all (after_steps (star_steps name primary lists n first columns ids x arms) relations (star_last name n columns ids x arms)) held
