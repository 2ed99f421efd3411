use Rattle.std.proofs.Common.{◌≡◌, ◌++◌, take, map}
use Rattle.std.specs.List.{flat_map}
use Rattle.rel_cells.specs.Fronts.{KeepsFront}
use Rattle.table_meaning.specs.CellText.{after_tab}
use Rattle.table_text_meaning.specs.TableText.{column_text}
use Rattle.table_text.proofs.writer.write_columns.Given as goal

abbrev pub invariant-loop-column : goal.invariant-loop-column
invariant-loop-column l =
    (l.into.items ≡ l.initial.into.items ++ flat_map after_tab (map column_text (take l.column-index l.columns))) × KeepsFront l.initial.into.items l.into.items
