use Rattle.std.proofs.Common.{sym, ◌∙◌}
use Rattle.table_text.proofs.LeftOver.{left_over}
use Rattle.table_text.proofs.rows.read_row.Goals as goal

pub returns-then-is_some : goal.returns-then-is_some
returns-then-is_some c =
    left_over c.args.columns.now c.loop-column.column-index c.loop-column.cells.items c.loop-column.rest _ c.loop-column.invariant c.loop-column-test.false (sym c.is_some.ensures ∙ c.if-is_some.true)
