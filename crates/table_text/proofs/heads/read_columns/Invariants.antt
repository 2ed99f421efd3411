use Rattle.std.proofs.Common.{◌≡◌}
use Rattle.table_text.specs.Reading.{before, columns_of, fields_left, left_length}
use Rattle.table_text.proofs.heads.read_columns.Given as goal

abbrev pub invariant-fields : goal.invariant-fields
invariant-fields l = before l.columns.items (columns_of (fields_left l.rest)) ≡ columns_of (fields_left l.fn.fields)

abbrev pub decreases-fields : goal.decreases-fields
decreases-fields l = left_length l.rest
