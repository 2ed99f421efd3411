-- The value of an expression whose names are places (this project's own): as that of an expression with names.
use Rattle.std.specs.Prelude.{ℕ, List, [], map, slice_get, unwrap_or}
use Rattle.table_meaning.specs.declared.cell.Cell.{Cell}
use Rattle.table_meaning.specs.declared.cell.Cell.TheVariants.{Null, Int, Text, Truth}
use Rattle.sql_rows_meaning.specs.Cells.{is_null, equal_cells, less_cells}
use Rattle.sql_rows_meaning.specs.Values.{Tried, not_cell, all_cells, any_cells, first_cell, first_true}
use Rattle.sql_bind_meaning.specs.declared.expression.BoundExpr.{BoundExpr, fold-BoundExpr}
use Rattle.sql_bind_meaning.specs.declared.expression.BoundExpr.TheOpen as o
use Rattle.sql_bind_meaning.specs.declared.expression.BoundExpr.TheOpen.{BoundExpr-F}
use Rattle.sql_bind_meaning.specs.declared.expression.BoundBranch.{BoundBranch, BoundBranch-F, fold-BoundBranch}

-- a row of each source so far, in the order of the sources; where a LEFT JOIN found none, the row without cells
abbrev pub Picked : Type 0
Picked = List (List Cell)

-- the cell of a column; null where the row has none
abbrev pub cell_in : List Cell → ℕ → Cell
cell_in cells column = unwrap_or (slice_get cells column) Null

-- the row of a source; without cells where there is no such source
abbrev pub row_in : Picked → ℕ → List Cell
row_in picked source = unwrap_or (slice_get picked source) []

abbrev pub bound_step : BoundExpr-F (Picked → Cell) (Picked → Tried) → Picked → Cell
bound_step (o.Cell source column) picked = cell_in (row_in picked source) column
bound_step (o.Int n) picked = Int n
bound_step (o.Text text) picked = Text text
bound_step (o.Truth b) picked = Truth b
bound_step o.Null picked = Null
bound_step (o.Equal a b) picked = equal_cells (a picked) (b picked)
bound_step (o.Less a b) picked = less_cells (a picked) (b picked)
bound_step (o.All es) picked = all_cells (map (λ e. e picked) es)
bound_step (o.Any es) picked = any_cells (map (λ e. e picked) es)
bound_step (o.Not a) picked = not_cell (a picked)
bound_step (o.IsNull a) picked = Truth (is_null (a picked))
bound_step (o.Case branches last) picked = first_true (map (λ b. b picked) branches) (last picked)
bound_step (o.First es) picked = first_cell (map (λ e. e picked) es)

abbrev pub bound_branch_step : BoundBranch-F (Picked → Cell) (Picked → Tried) → Picked → Tried
bound_branch_step b picked = record { test = b.test picked; value = b.value picked }

-- the value of an expression over the picked rows
abbrev pub bound_value : BoundExpr → Picked → Cell
bound_value = fold-BoundExpr (Picked → Cell) (Picked → Tried) bound_step bound_branch_step

-- what a branch's test and its value give
abbrev pub bound_tried : BoundBranch → Picked → Tried
bound_tried = fold-BoundBranch (Picked → Cell) (Picked → Tried) bound_step bound_branch_step
