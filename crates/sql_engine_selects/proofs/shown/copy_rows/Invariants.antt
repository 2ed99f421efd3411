use Rattle.std.proofs.Common.{◌≡◌, take}
use Rattle.sql_engine_selects.proofs.shown.copy_rows.Given as goal

abbrev pub invariant-loop-row : goal.invariant-loop-row
invariant-loop-row l = l.rows.items ≡ take l.row-index l.shown
