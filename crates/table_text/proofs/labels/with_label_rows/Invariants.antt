use Rattle.std.proofs.Common.{◌≡◌, ◌++◌, map}
use Rattle.table_text_meaning.specs.Versions.{with_label}
use Rattle.table_text.proofs.labels.with_label_rows.Given as goal

abbrev pub invariant-loop-row : goal.invariant-loop-row
invariant-loop-row l = (l.labelled.items ≡ map with_label l.yielded) × (l.yielded ++ l.row-iterator.rest.items ≡ l.fn.rows.items)
