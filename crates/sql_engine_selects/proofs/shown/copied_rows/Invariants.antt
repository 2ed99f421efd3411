use Rattle.std.proofs.Common.{◌≡◌, map, take}
use Rattle.sql_engine_selects.specs.Numbered.{cells_at}
use Rattle.sql_engine_selects.proofs.shown.copied_rows.Given as goal

abbrev pub invariant-loop-at : goal.invariant-loop-at
invariant-loop-at g l = l.copied.items ≡ map (cells_at l.sources l.rows l.items) (take l.at-index l.order)
