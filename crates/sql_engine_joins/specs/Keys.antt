-- The key of a join (this project's own): an equality that follows from its condition.
use Rattle.std.specs.Prelude.{◌≡◌, ℕ, true, List, length}
use Rattle.std.specs.List.{All}
use Rattle.table_meaning.specs.declared.cell.Cell.{Cell}
use Rattle.sql_rows_meaning.specs.Cells.{equal_cells}
use Rattle.sql_rows_meaning.specs.Values.{is_true}
use Rattle.sql_bind_meaning.specs.declared.expression.BoundExpr.{BoundExpr}
use Rattle.sql_bind_meaning.specs.Values.{Picked, cell_in, bound_value}
use Rattle.sql_bind_meaning.specs.Sources.{with_picked}

-- the value over a left row and a row of the new source is that over the left row
abbrev pub IsEarlier : ℕ → BoundExpr → Type 0
IsEarlier new e = (left : Picked) (row : List Cell) → length left ≡ new → bound_value e (with_picked left row) ≡ bound_value e left

-- the value is the new row's cell of a column
abbrev pub IsColumn : ℕ → BoundExpr → ℕ → Type 0
IsColumn new e column = (left : Picked) (row : List Cell) → length left ≡ new → bound_value e (with_picked left row) ≡ cell_in row column

-- the new row's cell of a column equals the value of an expression over the left row
abbrev pub HasKey : Picked → List Cell → ℕ → BoundExpr → Type 0
HasKey left row column other = is_true (equal_cells (cell_in row column) (bound_value other left)) ≡ true

-- where the condition of a join is true, its key is
abbrev pub IsKeyOf : ℕ → BoundExpr → ℕ → BoundExpr → Type 0
IsKeyOf new condition column other = (left : Picked) (row : List Cell) → length left ≡ new → is_true (bound_value condition (with_picked left row)) ≡ true → HasKey left row column other

-- where all of these are true, the key is
abbrev pub IsKeyOfAll : ℕ → List BoundExpr → ℕ → BoundExpr → Type 0
IsKeyOfAll new members column other = (left : Picked) (row : List Cell) → length left ≡ new → All (λ (e : BoundExpr). is_true (bound_value e (with_picked left row)) ≡ true) members → HasKey left row column other
