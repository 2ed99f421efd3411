use Rattle.std.proofs.Common.{◌≡◌, ◌++◌, drop, map}
use Rattle.rel_cells.specs.Fronts.{KeepsFront}
use Rattle.table_meaning.specs.CellText.{cell_text, row_line}
use Rattle.answer_text.specs.Tabs.{left_of}
use Rattle.answer_text.proofs.cells.write_line.Given as goal

abbrev pub invariant-loop-cell : goal.invariant-loop-cell
invariant-loop-cell l = (l.initial.into.items ++ row_line l.cells ≡ l.into.items ++ left_of l.before (map cell_text (drop l.cell-index l.cells))) × KeepsFront l.initial.into.items l.into.items
