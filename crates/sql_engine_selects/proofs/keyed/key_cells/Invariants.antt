use Rattle.std.proofs.Common.{◌≡◌, take}
use Rattle.sql_bind_meaning.specs.Selects.{bound_key_cells}
use Rattle.sql_engine_values.specs.Places.{picked}
use Rattle.sql_engine_selects.proofs.keyed.key_cells.Given as goal

abbrev pub invariant-loop-key : goal.invariant-loop-key
invariant-loop-key g l = l.cells.items ≡ bound_key_cells (take l.key-index l.keys) (picked l.sources l.row)
