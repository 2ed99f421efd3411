use Rattle.sql_rows_laws.specs.CellLaws.{same_cell-Decides}
use Rattle.sql_rows_laws.proofs.cells.cells_told_apart.Goals as goal

pub returns : goal.returns
returns c = same_cell-Decides
