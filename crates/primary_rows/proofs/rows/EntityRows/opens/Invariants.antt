use Rattle.std.proofs.Common.{◌≡◌, drop}
use Rattle.primary_rows.specs.Places.{opens}
use Rattle.primary_rows.proofs.rows.EntityRows.opens.Given as goal

abbrev pub invariant-loop-row : goal.invariant-loop-row
invariant-loop-row l = opens l.columns l.self ≡ opens l.columns (drop l.row-index l.row-items)
