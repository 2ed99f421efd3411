use Rattle.std.proofs.Common.{◌≡◌, ◌++◌, drop}
use Rattle.std.specs.List.{flat_map}
use Rattle.rel_cells.specs.Fronts.{KeepsFront}
use Rattle.answer_text.specs.Tabs.{row_text}
use Rattle.answer_text.proofs.cells.write_rows.Given as goal

abbrev pub invariant-loop-row : goal.invariant-loop-row
invariant-loop-row l = (l.initial.into.items ++ flat_map row_text l.rows ≡ l.into.items ++ flat_map row_text (drop l.row-index l.rows)) × KeepsFront l.initial.into.items l.into.items
