use Rattle.std.proofs.Common.{◌≡◌, map, take}
use Rattle.sql_engine_selects.specs.KeyedRows.{row_of}
use Rattle.sql_engine_selects.proofs.keyed.row_numbers.Given as goal

abbrev pub invariant-loop-row : goal.invariant-loop-row
invariant-loop-row l = l.numbers.items ≡ map row_of (take l.row-index l.rows)
