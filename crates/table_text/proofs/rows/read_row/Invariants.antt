use Rattle.std.proofs.Common.{◌≡◌, drop}
use Rattle.table_text.specs.Reading.{before, cells_of, fields_of, fields_left}
use Rattle.table_text.proofs.rows.read_row.Given as goal

abbrev pub invariant-loop-column : goal.invariant-loop-column
invariant-loop-column l = before l.cells.items (cells_of (drop l.column-index l.columns) (fields_left l.rest)) ≡ cells_of l.columns (fields_of l.line)
