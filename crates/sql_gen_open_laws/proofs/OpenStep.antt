-- The step of one arm.
use Rattle.std.proofs.Common.{◌≡◌, ℕ, ◌≤◌, ◌⊎◌, Bool, true, false, cond, if◌then◌else◌, List, [], ◌∷◌, ◌++◌, map, Option, Some, sym, refl, ap, ap₂, ◌∙◌, inl, inr, ◌==◌, pos}
use Rattle.std.proofs.Math.Bool.{and-true}
use Rattle.std.proofs.lemmas.Bool.{cases_Bool}
use Rattle.std.specs.List.{filter, flat_map, AllByRecursion}
use Rattle.bags.specs.Bag.{total, SameBag}
use Rattle.bags.specs.BagLaws.{total-map, total-flat_map, total-filter, total-each, each-flat_map, each-map, each-weaker, each-any}
use Rattle.table_meaning.specs.declared.cell.Cell.{Cell}
use Rattle.table_meaning.specs.declared.cell.Cell.TheVariants.{Int, Truth}
use Rattle.sql_meaning.specs.declared.script.JoinTo.{JoinTo}
use Rattle.sql_meaning.specs.declared.expression.SqlExpr.TheVariants as sql
use Rattle.sql_rows_meaning.specs.Cells.{is_null, equal_cells}
use Rattle.sql_rows_meaning.specs.Values.{Sight, value_of, is_true, not_cell, first_cell}
use Rattle.sql_rows_meaning.specs.ValueLaws.{value_of-Name, value_of-Int, value_of-Equal, value_of-First, value_of-Not, value_of-IsNull}
use Rattle.sql_rows_meaning.specs.Tables.{Relations, cell_under}
use Rattle.sql_rows_meaning.specs.Sources.{with_row, nothing_in_sight, joined_to}
use Rattle.sql_rows_meaning.specs.Selects.{item_cells}
use Rattle.layout_meaning.specs.Side.{ValueLists}
use Rattle.layout_meaning.specs.Sound.{numbered}
use Rattle.layout_standing_meaning.specs.Contents.{element_cells}
use Rattle.sql_gen_step_laws.specs.Carried.{Name, column, one, select_table}
use Rattle.sql_gen_step_laws.specs.StepSelects.{left_alias, cell_of, has, one_item, variable_item}
use Rattle.sql_gen_step_laws.specs.PlainSelects.{plain_rows}
use Rattle.sql_gen_star_meaning.specs.declared.arm.Asked.{Asked}
use Rattle.sql_gen_star_meaning.specs.declared.arm.Asked.TheVariants.{Constant, Again, New, Maybe}
use Rattle.sql_gen_star_meaning.specs.Asked.{put, accepts, then_bound, asked_vars, Askable}
use Rattle.sql_gen_star_meaning.specs.SideTables.{elm_name, list_columns, id_or_null, value_or_null}
use Rattle.sql_gen_star_meaning.specs.Partials.{Partial, cell_name, partial_columns, partial_row, AllGive, HoldsPartials, opened, open_arm, choices_of}
use Rattle.sql_gen_star_meaning.specs.StarSelects.{list_alias, opened_sql, open_tests, open_sql, cell_item, kept_sql, open_core}
use Rattle.sql_gen_open_laws.proofs.PartialRows.{variable_at, cell_found, items_are, last_items, names_are, last_names}
use Rattle.sql_gen_open_laws.proofs.Listed.{lists_join, total-lists, armed-choices}
use Rattle.sql_gen_open_laws.proofs.Tests.{all_hold, total-passed, equal_numbers, some_number, has_before}

-- ---- one row of the step before, and one row of lists

abbrev pub before_sight : List ℕ → List ℕ → Partial → Sight
before_sight vs cells p = with_row left_alias (partial_columns vs cells) (partial_row vs cells p) nothing_in_sight

abbrev pub open_sight : List ℕ → List ℕ → Partial → List Cell → Sight
open_sight vs cells p row = with_row list_alias list_columns row (before_sight vs cells p)

variable_is : (vs cells : List ℕ) (p : Partial) (row : List Cell) (v : ℕ) → has vs v ≡ true → value_of (cell_of left_alias v) (open_sight vs cells p row) ≡ id_or_null (p.numbers v)
variable_is vs cells p row v e = value_of-Name left_alias (column v) (open_sight vs cells p row) ∙ variable_at (λ v. id_or_null (p.numbers v)) (λ i. value_or_null (p.cells i)) vs cells (Int (pos 1)) v e

cell_is : (vs cells : List ℕ) (p : Partial) (row : List Cell) (i : ℕ) → has cells i ≡ true → value_of (kept_sql i) (open_sight vs cells p row) ≡ value_or_null (p.cells i)
cell_is vs cells p row i e = value_of-Name left_alias (cell_name i) (open_sight vs cells p row) ∙ cell_found (λ v. id_or_null (p.numbers v)) (λ i. value_or_null (p.cells i)) vs cells (Int (pos 1)) i e

value_is : (vs cells : List ℕ) (p : Partial) (row : List Cell) (i : ℕ) → has cells i ≡ true → (o : Option ℕ) → first_cell (cell_under list_columns row elm_name ∷ value_or_null (p.cells i) ∷ []) ≡ id_or_null o →
    value_of (opened_sql i) (open_sight vs cells p row) ≡ id_or_null o
value_is vs cells p row i e o h =
    value_of-First (sql.Name list_alias elm_name ∷ kept_sql i ∷ []) (open_sight vs cells p row)
    ∙ ap₂ (λ x y. first_cell (x ∷ y ∷ [])) (value_of-Name list_alias elm_name (open_sight vs cells p row)) (cell_is vs cells p row i e) ∙ h

tests_are : (vs cells : List ℕ) (p : Partial) (row : List Cell) (i : ℕ) (a : Asked) → Askable vs a → (o : Option ℕ) → value_of (opened_sql i) (open_sight vs cells p row) ≡ id_or_null o →
    all_hold (open_tests i a) (open_sight vs cells p row) ≡ accepts a p.numbers o
tests_are vs cells p row i (Constant n) ok o v =
    and-true _ ∙ ap is_true (value_of-Equal (opened_sql i) (sql.Int (pos n)) (open_sight vs cells p row) ∙ ap₂ equal_cells v (value_of-Int (pos n) (open_sight vs cells p row))) ∙ equal_numbers o (Some n)
tests_are vs cells p row i (Again w) ok o v =
    and-true _ ∙ ap is_true (value_of-Equal (opened_sql i) (cell_of left_alias w) (open_sight vs cells p row) ∙ ap₂ equal_cells v (variable_is vs cells p row w ok)) ∙ equal_numbers o (p.numbers w)
tests_are vs cells p row i (New w) ok o v =
    and-true _ ∙ ap is_true (value_of-Not (sql.IsNull (opened_sql i)) (open_sight vs cells p row) ∙ ap not_cell (value_of-IsNull (opened_sql i) (open_sight vs cells p row) ∙ ap (λ (c : Cell). Truth (is_null c)) v)) ∙ some_number o
tests_are vs cells p row i (Maybe w) ok o v = refl

-- a new variable's cell, or one that was there
new_is : (vs cells : List ℕ) (p : Partial) (row : List Cell) (i v : ℕ) (o : Option ℕ) → value_of (opened_sql i) (open_sight vs cells p row) ≡ id_or_null o → (w : ℕ) → has (vs ++ v ∷ []) w ≡ true →
    value_of (if w == v then opened_sql i else cell_of left_alias w) (open_sight vs cells p row) ≡ id_or_null (put v o p.numbers w)
new_is vs cells p row i v o is w e = go (cases_Bool (w == v))
  where
    go : ((w == v) ≡ true) ⊎ ((w == v) ≡ false) → value_of (if w == v then opened_sql i else cell_of left_alias w) (open_sight vs cells p row) ≡ id_or_null (if w == v then o else p.numbers w)
    go (inl q) = rw q is
    go (inr q) = rw q (variable_is vs cells p row w (has_before vs v w e q))

bound_is : (vs cells : List ℕ) (p : Partial) (row : List Cell) (i : ℕ) (a : Asked) (o : Option ℕ) → value_of (opened_sql i) (open_sight vs cells p row) ≡ id_or_null o → (w : ℕ) → has (asked_vars a vs) w ≡ true →
    value_of (open_sql i a w) (open_sight vs cells p row) ≡ id_or_null (then_bound a o p.numbers w)
bound_is vs cells p row i (Constant n) o is w e = variable_is vs cells p row w e
bound_is vs cells p row i (Again v) o is w e = variable_is vs cells p row w e
bound_is vs cells p row i (New v) o is w e = new_is vs cells p row i v o is w e
bound_is vs cells p row i (Maybe v) o is w e = new_is vs cells p row i v o is w e

open_items : (vs cells kept : List ℕ) (p : Partial) (row : List Cell) (i : ℕ) (a : Asked) (o : Option ℕ) → value_of (opened_sql i) (open_sight vs cells p row) ≡ id_or_null o →
    ((j : ℕ) → has kept j ≡ true → has cells j ≡ true) →
    item_cells (one_item ∷ (map (variable_item (open_sql i a)) (asked_vars a vs) ++ map (cell_item kept_sql) kept)) (open_sight vs cells p row) ≡ partial_row (asked_vars a vs) kept (opened a p o)
open_items vs cells kept p row i a o is sub =
    let sight = open_sight vs cells p row in
    ap₂ (λ (c : Cell) (cs : List Cell). c ∷ cs) (value_of-Int (pos 1) sight)
    (items_are (open_sql i a) column (λ w. id_or_null (then_bound a o p.numbers w)) sight (asked_vars a vs) (map (cell_item kept_sql) kept) (bound_is vs cells p row i a o is)
    ∙ ap (λ (cs : List Cell). map (λ w. id_or_null (then_bound a o p.numbers w)) (asked_vars a vs) ++ cs) (last_items kept_sql cell_name (λ j. value_or_null (p.cells j)) sight kept (λ j e. cell_is vs cells p row j (sub j e))))

-- ---- the step

pub open_step : (relations : Relations) (before lists : Name) (ls : ValueLists) (vs cells : List ℕ) (ps : List Partial) →
    (relations lists).columns ≡ list_columns → SameBag (relations lists).rows (flat_map element_cells ls) → ((n : ℕ) → numbered n ls ≤ 1) →
    HoldsPartials ls vs cells ps (relations before) → (i : ℕ) (kept : List ℕ) (a : Asked) →
    has cells i ≡ true → ((j : ℕ) → has kept j ≡ true → has cells j ≡ true) → Askable vs a →
    HoldsPartials ls (asked_vars a vs) kept (flat_map (open_arm ls i a) ps) (select_table relations (open_core before lists vs i kept a))
open_step relations before lists ls vs cells ps columns rows once st i kept a has_i sub ok = record {
  columns = ap (λ (ns : List Name). one ∷ ns) (names_are (open_sql i a) column (asked_vars a vs) (map (cell_item kept_sql) kept) ∙ ap (λ (ns : List Name). map column (asked_vars a vs) ++ ns) (last_names kept_sql cell_name kept));
  rows = record {
    totals = λ g.
        let us = asked_vars a vs in
        let items = one_item ∷ (map (variable_item (open_sql i a)) us ++ map (cell_item kept_sql) kept) in
        let K : Sight → ℕ = λ e. cond (all_hold (open_tests i a) e) (g (item_cells items e)) 0 in
        let join : JoinTo = lists_join lists list_alias (kept_sql i) in
        let beside : List Name → List Cell → Sight = λ cols row. with_row left_alias cols row nothing_in_sight in
        let H : Partial → Option ℕ → ℕ = λ p o. cond (accepts a p.numbers o) (g (partial_row us kept (opened a p o))) 0 in
        let each_opened : (p : Partial) → total (λ q. g (partial_row us kept q)) (open_arm ls i a p) ≡ total (H p) (choices_of ls (p.cells i)) =
        λ p. total-map (λ q. g (partial_row us kept q)) (opened a p) (filter (accepts a p.numbers) (choices_of ls (p.cells i)))
        ∙ total-filter (λ o. g (partial_row us kept (opened a p o))) (accepts a p.numbers) (choices_of ls (p.cells i)) in
        let point : (p : Partial) (row : List Cell) (o : Option ℕ) → first_cell (cell_under list_columns row elm_name ∷ value_or_null (p.cells i) ∷ []) ≡ id_or_null o → K (open_sight vs cells p row) ≡ H p o =
        λ p row o h.
        let v = value_is vs cells p row i has_i o h in
        ap₂ (λ (b : Bool) (cs : List Cell). cond b (g cs) 0) (tests_are vs cells p row i a ok o v) (open_items vs cells kept p row i a o v sub) in
        ap (total g) (plain_rows relations (open_core before lists vs i kept a) refl refl refl refl)
        ∙ total-map g (item_cells items) _
        ∙ total-passed (λ e. g (item_cells items e)) (open_tests i a) (flat_map (joined_to relations join) (map (beside (relations before).columns) (relations before).rows))
        ∙ total-flat_map K (joined_to relations join) (map (beside (relations before).columns) (relations before).rows)
        ∙ total-map (λ sight. total K (joined_to relations join sight)) (beside (relations before).columns) (relations before).rows
        ∙ ap (λ (cols : List Name). total (λ row. total K (joined_to relations join (beside cols row))) (relations before).rows) st.columns
        ∙ st.rows.totals (λ row. total K (joined_to relations join (beside (partial_columns vs cells) row)))
        ∙ total-map (λ row. total K (joined_to relations join (beside (partial_columns vs cells) row))) (partial_row vs cells) ps
        ∙ total-each _ _ (AllGive ls) (λ p n.
        total-lists relations lists list_alias ls (kept_sql i) (before_sight vs cells p) (p.cells i) K columns rows once (n i) (λ row. cell_is vs cells p row i has_i)
        ∙ armed-choices ls (λ row. K (open_sight vs cells p row)) (H p) (p.cells i) (point p)
        ∙ sym (each_opened p)) ps st.all_give
        ∙ sym (total-map g (partial_row us kept) (flat_map (open_arm ls i a) ps) ∙ total-flat_map (λ q. g (partial_row us kept q)) (open_arm ls i a) ps);
  };
  all_give = each-flat_map (AllGive ls) (open_arm ls i a) ps
      (each-weaker (AllGive ls) (λ p. AllByRecursion (AllGive ls) (open_arm ls i a p))
      (λ p n. each-map (AllGive ls) (opened a p) (filter (accepts a p.numbers) (choices_of ls (p.cells i)))
      (each-any (λ (o : Option ℕ). AllGive ls (opened a p o)) (λ o. n) (filter (accepts a p.numbers) (choices_of ls (p.cells i))))) ps st.all_give);
}
