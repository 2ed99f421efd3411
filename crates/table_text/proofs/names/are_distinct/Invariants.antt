use Rattle.std.proofs.Common.{◌≡◌, true, take}
use Rattle.table_meaning.specs.Schemas.{are_distinct, column_names}
use Rattle.table_text.proofs.names.are_distinct.Given as goal

abbrev pub invariant-loop-column : goal.invariant-loop-column
invariant-loop-column l = (l.names ≡ column_names (take l.column-index l.columns)) × (are_distinct l.names ≡ true)
