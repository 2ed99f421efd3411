use Rattle.std.proofs.Common.{◌≡◌, ◌++◌}
use Rattle.table_text.proofs.tables.as_set.Given as goal

abbrev pub invariant-loop-table : goal.invariant-loop-table
invariant-loop-table l = (l.set ≡ l.yielded) × (l.yielded ++ l.table-iterator.rest.items ≡ l.fn.tables.items)
