use Rattle.std.proofs.Common.{◌≡◌, ◌++◌, drop}
use Rattle.rel_cells.specs.Fronts.{KeepsFront}
use Rattle.table_meaning.specs.CellText.{tabbed}
use Rattle.table_meaning.specs.Schemas.{column_names}
use Rattle.answer_text.specs.Tabs.{left_of}
use Rattle.answer_text.proofs.cells.write_names.Given as goal

abbrev pub invariant-loop-column : goal.invariant-loop-column
invariant-loop-column l = (l.initial.into.items ++ tabbed (column_names l.columns) ≡ l.into.items ++ left_of l.before (column_names (drop l.column-index l.columns))) × KeepsFront l.initial.into.items l.into.items
