use Rattle.std.proofs.Common.{◌≡◌, drop}
use Rattle.layout_meaning.specs.Side.{first_free}
use Rattle.primary_rows.proofs.cells.Row.first_free.Given as goal

abbrev pub invariant-loop-column : goal.invariant-loop-column
invariant-loop-column l = first_free l.self l.columns ≡ first_free l.self (drop l.column-index l.columns)
