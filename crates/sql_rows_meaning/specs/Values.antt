-- The value of an expression (this project's own): AND, OR and NOT have three values, with null as the third.
use Rattle.std.specs.Prelude.{ℕ, Bool, true, false, not, if◌then◌else◌, List, [], ◌∷◌, map}
use Rattle.table_meaning.specs.declared.cell.Cell.{Cell}
use Rattle.table_meaning.specs.declared.cell.Cell.TheVariants.{Null, Int, Text, Truth}
use Rattle.sql_meaning.specs.declared.expression.SqlExpr.{SqlExpr, fold-SqlExpr}
use Rattle.sql_meaning.specs.declared.expression.SqlExpr.TheOpen as o
use Rattle.sql_meaning.specs.declared.expression.SqlExpr.TheOpen.{SqlExpr-F}
use Rattle.sql_meaning.specs.declared.expression.Branch.{Branch-F}
use Rattle.sql_rows_meaning.specs.Cells.{is_null, equal_cells, less_cells}

-- the rows in sight: from an alias and a column's name to the cell
abbrev pub Sight : Type 0
Sight = List ℕ → List ℕ → Cell

abbrev pub is_true : Cell → Bool
is_true (Truth b) = b
is_true _ = false

abbrev pub not_cell : Cell → Cell
not_cell (Truth b) = Truth (not b)
not_cell _ = Null

-- false where one side is false, else null where one is, else true
abbrev pub and_cells : Cell → Cell → Cell
and_cells (Truth false) y = Truth false
and_cells (Truth true) y = y
and_cells _ (Truth false) = Truth false
and_cells _ y = Null

abbrev pub all_cells : List Cell → Cell
all_cells [] = Truth true
all_cells (x ∷ xs) = and_cells x (all_cells xs)

-- true where one side is true, else null where one is, else false
abbrev pub or_cells : Cell → Cell → Cell
or_cells (Truth true) y = Truth true
or_cells (Truth false) y = y
or_cells _ (Truth true) = Truth true
or_cells _ y = Null

abbrev pub any_cells : List Cell → Cell
any_cells [] = Truth false
any_cells (x ∷ xs) = or_cells x (any_cells xs)

-- COALESCE: the first that isn't null
abbrev pub first_cell : List Cell → Cell
first_cell [] = Null
first_cell (x ∷ xs) = if is_null x then first_cell xs else x

-- what a branch's test and its value give
pub record Tried : Type 0 where
  pub test : Cell
  pub value : Cell

-- CASE: the value of the first branch whose test is true, else the last value
abbrev pub first_true : List Tried → Cell → Cell
first_true [] last = last
first_true (b ∷ branches) last = if is_true b.test then b.value else first_true branches last

abbrev pub value_step : SqlExpr-F (Sight → Cell) (Sight → Tried) → Sight → Cell
value_step (o.Name alias column) sight = sight alias column
value_step (o.Int n) sight = Int n
value_step (o.Text text) sight = Text text
value_step (o.Truth b) sight = Truth b
value_step (o.Null kind) sight = Null
value_step (o.Equal a b) sight = equal_cells (a sight) (b sight)
value_step (o.Less a b) sight = less_cells (a sight) (b sight)
value_step (o.All es) sight = all_cells (map (λ e. e sight) es)
value_step (o.Any es) sight = any_cells (map (λ e. e sight) es)
value_step (o.Not a) sight = not_cell (a sight)
value_step (o.IsNull a) sight = Truth (is_null (a sight))
value_step (o.Case branches last) sight = first_true (map (λ b. b sight) branches) (last sight)
value_step (o.First es) sight = first_cell (map (λ e. e sight) es)

abbrev pub tried_step : Branch-F (Sight → Cell) (Sight → Tried) → Sight → Tried
tried_step b sight = record { test = b.test sight; value = b.value sight }

-- the value of an expression over the rows in sight
abbrev pub value_of : SqlExpr → Sight → Cell
value_of = fold-SqlExpr (Sight → Cell) (Sight → Tried) value_step tried_step
