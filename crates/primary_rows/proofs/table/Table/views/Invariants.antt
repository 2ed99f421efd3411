use Rattle.std.proofs.Common.{◌≡◌, ◌++◌, map}
use Rattle.layout_meaning.specs.Rows.{numbered_rows}
use Rattle.primary_rows.specs.Views.{seen_row}
use Rattle.primary_rows.proofs.table.Table.views.Given as goal

abbrev pub invariant-loop-entity : goal.invariant-loop-entity
invariant-loop-entity l = map seen_row l.views.items ++ numbered_rows l.entity-iterator ≡ numbered_rows l.self
