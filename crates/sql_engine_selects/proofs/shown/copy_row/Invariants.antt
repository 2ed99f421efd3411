use Rattle.std.proofs.Common.{◌≡◌, take}
use Rattle.sql_engine_selects.proofs.shown.copy_row.Given as goal

abbrev pub invariant-loop-cell : goal.invariant-loop-cell
invariant-loop-cell l = l.cells.items ≡ take l.cell-index l.cell-items
