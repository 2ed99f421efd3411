use Rattle.sql_rows_laws.specs.CellLaws.{cell_order_total, cell_order_ties}
use Rattle.sql_rows_laws.proofs.cells.cells_in_order.Goals as goal

pub returns : goal.returns
returns c = record { total = cell_order_total; ties = cell_order_ties }
