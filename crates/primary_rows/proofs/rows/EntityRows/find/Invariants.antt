use Rattle.std.proofs.Common.{◌≡◌, drop}
use Rattle.layout_meaning.specs.Side.{find}
use Rattle.primary_rows.proofs.rows.EntityRows.find.Given as goal

abbrev pub invariant-loop-row : goal.invariant-loop-row
invariant-loop-row l = find l.pred l.self ≡ find l.pred (drop l.row-index l.row-items)
