use Rattle.std.proofs.Common.{◌≡◌, ◌++◌, map, take}
use Rattle.layout_meaning.specs.Rows.{rows_from}
use Rattle.primary_rows.specs.Views.{seen_row}
use Rattle.primary_rows.proofs.table.push_views.Given as goal

abbrev pub invariant-loop-number : goal.invariant-loop-number
invariant-loop-number l = map seen_row l.views.items ≡ map seen_row l.fn.views.items ++ rows_from l.entity 0 (take l.number l.rows)
