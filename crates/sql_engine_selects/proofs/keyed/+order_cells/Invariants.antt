use Rattle.std.proofs.Common.{length}
use Rattle.sql_engine_selects.proofs.keyed.+order_cells.Given as goal

abbrev pub decreases-order_cells : goal.decreases-order_cells
decreases-order_cells l = length l.a.now
