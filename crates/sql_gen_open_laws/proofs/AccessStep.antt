-- The step that reads the primary table: a row's entity, and the cells of the arms.
use Rattle.std.proofs.Common.{◌≡◌, ℕ, ◌^◌, ◌<◌, ◌⊎◌, Bool, true, false, cond, if◌then◌else◌, ◌&&◌, ◌||◌, List, [], ◌∷◌, ◌++◌, map, Option, Some, None, length, sym, refl, ap, ap₂, ◌∙◌, inl, inr, ◌==◌, pos}
use Rattle.std.proofs.Math.Bool.{and-true}
use Rattle.std.proofs.lemmas.Bool.{eq-eqb, eqb-true, cases_Bool}
use Rattle.std.specs.List.{filter, AllByRecursion}
use Rattle.bags.specs.Bag.{total}
use Rattle.bags.specs.BagLaws.{total-map, total-filter, total-each, each-map, each-weaker, each-filter}
use Rattle.table_meaning.specs.declared.cell.Cell.{Cell}
use Rattle.sql_meaning.specs.declared.expression.SqlExpr.{SqlExpr}
use Rattle.sql_meaning.specs.declared.expression.SqlExpr.TheVariants as sql
use Rattle.sql_meaning.specs.declared.script.Item.{Item}
use Rattle.sql_rows_meaning.specs.Cells.{equal_cells}
use Rattle.sql_rows_meaning.specs.Values.{Sight, value_of, is_true}
use Rattle.sql_rows_meaning.specs.ValueLaws.{value_of-Name, value_of-Int, value_of-Equal}
use Rattle.sql_rows_meaning.specs.Tables.{Relations}
use Rattle.sql_rows_meaning.specs.Sources.{with_row, nothing_in_sight}
use Rattle.sql_rows_meaning.specs.Selects.{select_rows, item_cells}
use Rattle.layout_meaning.specs.Side.{Pair}
use Rattle.layout_meaning.specs.Rows.{NumberedRow}
use Rattle.layout_standing_meaning.specs.Contents.{SideContents, row_cells}
use Rattle.sql_gen_step_laws.specs.Carried.{Name, column, one, select_table}
use Rattle.sql_gen_step_laws.specs.StepSelects.{has, one_item, variable_item}
use Rattle.sql_gen_step_laws.specs.PlainSelects.{plain_rows}
use Rattle.sql_gen_step_laws.specs.StepTests.{same_number}
use Rattle.layout_row_meaning.specs.Reading.{found_in, Gives, IsReadable}
use Rattle.sql_gen_star_meaning.specs.declared.arm.Asked.{Asked}
use Rattle.sql_gen_star_meaning.specs.declared.arm.Asked.TheVariants.{Constant, Again, New, Maybe}
use Rattle.sql_gen_star_meaning.specs.Asked.{unbound, then_bound, asked_vars, IsEntity}
use Rattle.sql_gen_star_meaning.specs.SideTables.{spill_name, primary_columns, HoldsSide, id_or_null, value_or_null}
use Rattle.sql_gen_star_meaning.specs.Partials.{cell_name, partial_row, AllGive, HoldsPartials, AccessArm, access_test, access_partial, access_partials}
use Rattle.sql_gen_star_meaning.specs.StarSelects.{star_alias, where_every, entry_sql, spill_tests, entity_tests, entity_sql, arm_sql, cell_item, access_core}
use Rattle.sql_gen_star_meaning.proofs.Choices.{given_found}
use Rattle.sql_gen_open_laws.proofs.Columns.{pred_at, val_at}
use Rattle.sql_gen_open_laws.proofs.PartialRows.{items_are, last_items, names_are, last_names}
use Rattle.sql_gen_open_laws.proofs.Cases.{found_value}
use Rattle.sql_gen_open_laws.proofs.Tests.{all_hold, total-passed}

-- a row of the primary table in sight
abbrev pub row_sight : ℕ → NumberedRow → Sight
row_sight k r = with_row star_alias (primary_columns k) (row_cells r) nothing_in_sight

spill_is : (k : ℕ) (r : NumberedRow) → is_true (value_of (sql.Equal (sql.Name star_alias spill_name) (sql.Int (pos 0))) (row_sight k r)) ≡ (r.spill == 0)
spill_is k r =
    ap is_true (value_of-Equal (sql.Name star_alias spill_name) (sql.Int (pos 0)) (row_sight k r) ∙ ap₂ equal_cells (value_of-Name star_alias spill_name (row_sight k r)) (value_of-Int (pos 0) (row_sight k r)))
    ∙ same_number r.spill 0

pub entry_value : (k : ℕ) (r : NumberedRow) → value_of entry_sql (row_sight k r) ≡ id_or_null (Some r.entity)
entry_value k r = value_of-Name star_alias _ (row_sight k r)

pub entry_is : (k n : ℕ) (r : NumberedRow) → is_true (value_of (sql.Equal entry_sql (sql.Int (pos n))) (row_sight k r)) ≡ (r.entity == n)
entry_is k n r =
    ap is_true (value_of-Equal entry_sql (sql.Int (pos n)) (row_sight k r) ∙ ap₂ equal_cells (entry_value k r) (value_of-Int (pos n) (row_sight k r)))
    ∙ same_number r.entity n

access_tests : (k : ℕ) (first : Bool) (entity : Asked) → IsEntity entity → (r : NumberedRow) → all_hold (spill_tests first ++ entity_tests entity) (row_sight k r) ≡ access_test first entity r
access_tests k true (Constant n) ok r = ap₂ (λ (a b : Bool). a && b) (spill_is k r) (and-true _ ∙ entry_is k n r)
access_tests k true (New v) ok r = ap (λ (a : Bool). a && true) (spill_is k r)
access_tests k false (Constant n) ok r = and-true _ ∙ entry_is k n r
access_tests k false (New v) ok r = refl
access_tests k first (Again v) ok r = absurd ok
access_tests k first (Maybe v) ok r = absurd ok

-- the entity's cell
pub entity_is : (k : ℕ) (entity : Asked) → IsEntity entity → (r : NumberedRow) (w : ℕ) → has (asked_vars entity []) w ≡ true → value_of (entity_sql w) (row_sight k r) ≡ id_or_null (then_bound entity (Some r.entity) unbound w)
entity_is k (Constant n) ok r w e = cc
entity_is k (New v) ok r w e = entry_value k r ∙ go (cases_Bool (v == w))
  where
    go : ((v == w) ≡ true) ⊎ ((v == w) ≡ false) → id_or_null (Some r.entity) ≡ id_or_null (if w == v then Some r.entity else None)
    go (inl q) = rw (eq-eqb w v (sym (eqb-true v w q))) refl
    go (inr q) = let s : ((v == w) || false) ≡ true = e in let t : false ≡ true = rw q at s in cc
entity_is k (Again v) ok r w e = absurd ok
entity_is k (Maybe v) ok r w e = absurd ok

access_items : (k : ℕ) → k < 2 ^ 64 → (entity : Asked) → IsEntity entity → (arms : ℕ → AccessArm) → ((i : ℕ) → AllByRecursion (λ c. c < k) (arms i).columns) → (cells : List ℕ) (r : NumberedRow) → length r.pairs ≡ k →
    item_cells (one_item ∷ (map (variable_item entity_sql) (asked_vars entity []) ++ map (cell_item (arm_sql arms)) cells)) (row_sight k r) ≡ partial_row (asked_vars entity []) cells (access_partial entity arms r)
access_items k few entity ok arms below cells r wide =
    let sight = row_sight k r in
    ap₂ (λ (c : Cell) (cs : List Cell). c ∷ cs) (value_of-Int (pos 1) sight)
    (items_are entity_sql column (λ w. id_or_null (then_bound entity (Some r.entity) unbound w)) sight (asked_vars entity []) (map (cell_item (arm_sql arms)) cells) (entity_is k entity ok r)
    ∙ ap (λ (cs : List Cell). map (λ w. id_or_null (then_bound entity (Some r.entity) unbound w)) (asked_vars entity []) ++ cs)
    (last_items (arm_sql arms) cell_name (λ i. value_or_null (found_in (arms i).pred r.pairs (arms i).columns)) sight cells
    (λ i e. found_value (arms i).pred k r.pairs sight (λ c l. pred_at r k c wide few l) (λ c l. val_at r k c wide few l) (arms i).columns (below i))))

-- ---- a SELECT over the primary table

pub total-primary : (g : List Cell → ℕ) (relations : Relations) (primary lists : Name) (k : ℕ) (s : SideContents) → HoldsSide k s (relations primary) (relations lists) →
    (items : List Item) (tests : List SqlExpr) →
    total g (select_rows relations (record { distinct = false; items = items; from = Some (record { table = primary; alias = star_alias }); joins = []; condition = where_every tests; keys = []; most = None; skip = None })) ≡
    total (λ r. cond (all_hold tests (row_sight k r)) (g (item_cells items (row_sight k r))) 0) s.rows
total-primary g relations primary lists k s st items tests =
    let K : Sight → ℕ = λ e. cond (all_hold tests e) (g (item_cells items e)) 0 in
    let beside : List Name → List Cell → Sight = λ cols row. with_row star_alias cols row nothing_in_sight in
    ap (total g) (plain_rows relations (record { distinct = false; items = items; from = Some (record { table = primary; alias = star_alias }); joins = []; condition = where_every tests; keys = []; most = None; skip = None }) refl refl refl refl)
    ∙ total-map g (item_cells items) _
    ∙ total-passed (λ e. g (item_cells items e)) tests (map (beside (relations primary).columns) (relations primary).rows)
    ∙ total-map K (beside (relations primary).columns) (relations primary).rows
    ∙ ap (λ (cols : List Name). total (λ row. K (beside cols row)) (relations primary).rows) st.primary_names
    ∙ st.primary_rows.totals (λ row. K (beside (primary_columns k) row))
    ∙ total-map (λ row. K (beside (primary_columns k) row)) row_cells s.rows

pub access_step : (relations : Relations) (primary lists : Name) (k : ℕ) (s : SideContents) → k < 2 ^ 64 → HoldsSide k s (relations primary) (relations lists) → IsReadable k s →
    (first : Bool) (entity : Asked) → IsEntity entity → (arms : ℕ → AccessArm) → ((i : ℕ) → AllByRecursion (λ c. c < k) (arms i).columns) → (cells : List ℕ) →
    HoldsPartials s.lists (asked_vars entity []) cells (access_partials first entity arms s.rows) (select_table relations (access_core primary first entity arms cells))
access_step relations primary lists k s few st readable first entity ok arms below cells = record {
  columns = ap (λ (ns : List Name). one ∷ ns) (names_are entity_sql column (asked_vars entity []) (map (cell_item (arm_sql arms)) cells)
      ∙ ap (λ (ns : List Name). map column (asked_vars entity []) ++ ns) (last_names (arm_sql arms) cell_name cells));
  rows = record {
    totals = λ g.
        let vs = asked_vars entity [] in
        total-primary g relations primary lists k s st (one_item ∷ (map (variable_item entity_sql) vs ++ map (cell_item (arm_sql arms)) cells)) (spill_tests first ++ entity_tests entity)
        ∙ total-each _ _ (λ (r : NumberedRow). length r.pairs ≡ k) (λ r w.
        ap₂ (λ (b : Bool) (cs : List Cell). cond b (g cs) 0) (access_tests k first entity ok r) (access_items k few entity ok arms below cells r w)) s.rows readable.wide
        ∙ sym (total-map g (partial_row vs cells) (access_partials first entity arms s.rows)
        ∙ total-map (λ p. g (partial_row vs cells p)) (access_partial entity arms) (filter (access_test first entity) s.rows)
        ∙ total-filter (λ r. g (partial_row vs cells (access_partial entity arms r))) (access_test first entity) s.rows);
  };
  all_give = each-map (AllGive s.lists) (access_partial entity arms) (filter (access_test first entity) s.rows)
      (each-weaker (λ (r : NumberedRow). AllByRecursion (λ (q : Option Pair). Gives s.lists q) r.pairs) (λ (r : NumberedRow). AllGive s.lists (access_partial entity arms r))
      (λ r h i. given_found s.lists (arms i).pred r.pairs h (arms i).columns) (filter (access_test first entity) s.rows)
      (each-filter (λ (r : NumberedRow). AllByRecursion (λ (q : Option Pair). Gives s.lists q) r.pairs) (access_test first entity) s.rows readable.given));
}
