-- Truths that may be unknown, as cells; what CASE takes before its last value.
use Rattle.std.specs.Prelude.{Bool, List, [], ◌∷◌, if◌then◌else◌, Option, Some, None}
use Rattle.table_meaning.specs.declared.cell.Cell.{Cell}
use Rattle.table_meaning.specs.declared.cell.Cell.TheVariants.{Null, Truth}
use Rattle.sql_rows_meaning.specs.Values.{is_true}
use Rattle.rel_cells.specs.declared.view.CellView.{CellView}
use Rattle.rel_cells.specs.Seen.{seen_cell}
use Rattle.sql_bind_meaning.specs.declared.expression.BoundBranch.{BoundBranch}
use Rattle.sql_bind_meaning.specs.Values.{Picked, bound_value}

-- null where it is unknown
abbrev pub known : Option Bool → Cell
known None = Null
known (Some b) = Truth b

abbrev pub seen_option : Option CellView → Option Cell
seen_option None = None
seen_option (Some view) = Some (seen_cell view)

-- the value of the first branch whose test is true
abbrev pub taken : Picked → List BoundBranch → Option Cell
taken picked [] = None
taken picked (b ∷ branches) = if is_true (bound_value b.test picked) then Some (bound_value b.value picked) else taken picked branches
