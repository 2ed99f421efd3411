-- The rows that views show.
use Rattle.std.specs.Prelude.{map}
use Rattle.layout_meaning.specs.Rows.{NumberedRow}
use Rattle.primary_rows.specs.Cells.{pair_of}
use Rattle.primary_rows.specs.declared.views.RowView.{RowView}

abbrev pub seen_row : RowView → NumberedRow
seen_row r = record { entity = r.entity; spill = r.spill; pairs = map pair_of r.cells.now }
