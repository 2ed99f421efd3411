use Rattle.std.proofs.Common.{◌≡◌, take}
use Rattle.sql_bind_meaning.specs.Selects.{bound_item_cells}
use Rattle.sql_engine_values.specs.Places.{picked}
use Rattle.sql_engine_selects.proofs.shown.shown_row.Given as goal

abbrev pub invariant-loop-item : goal.invariant-loop-item
invariant-loop-item g l = l.cells.items ≡ bound_item_cells (take l.item-index l.items) (picked l.sources l.row)
