use Rattle.std.proofs.Common.{◌≡◌, drop}
use Rattle.sql_rows_meaning.specs.Binding.{same_columns}
use Rattle.sql_bind.proofs.rest.same_columns.Given as goal

abbrev pub invariant-loop-at : goal.invariant-loop-at
invariant-loop-at l = same_columns l.a l.b ≡ same_columns (drop l.at l.a) (drop l.at l.b)
