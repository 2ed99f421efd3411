use Rattle.std.proofs.Common.{◌≡◌, map, take}
use Rattle.sql_engine_selects.specs.KeyedRows.{keyed}
use Rattle.sql_engine_selects.proofs.keyed.keyed_rows.Given as goal

abbrev pub invariant-loop-row : goal.invariant-loop-row
invariant-loop-row g l = l.all.items ≡ map (keyed l.sources l.rows l.keys) (take l.row-index l.order)
