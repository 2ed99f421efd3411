use Rattle.std.proofs.Common.{◌≡◌, ◌++◌, map}
use Rattle.table_text_meaning.specs.Versions.{with_labels}
use Rattle.table_text.proofs.labels.with_labels.Given as goal

abbrev pub invariant-loop-table : goal.invariant-loop-table
invariant-loop-table l = (l.labelled.items ≡ map with_labels l.yielded) × (l.yielded ++ l.table-iterator.rest.items ≡ l.fn.tables.items)
