-- What a view shows.
use Rattle.rel_cells.specs.declared.view.CellView.{CellView}
use Rattle.rel_cells.specs.declared.view.CellView.TheVariants as view
use Rattle.table_meaning.specs.declared.cell.Cell.{Cell}
use Rattle.table_meaning.specs.declared.cell.Cell.TheVariants.{Null, Int, Text, Truth}

-- the cell that is seen
abbrev pub seen_cell : CellView → Cell
seen_cell view.Null = Null
seen_cell (view.Int number) = Int number
seen_cell (view.Text text) = Text text.now
seen_cell (view.Truth truth) = Truth truth
