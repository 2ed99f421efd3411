use Rattle.std.proofs.Common.{◌≡◌, ◌++◌, true}
use Rattle.rel_cells.specs.Fronts.{KeepsFront}
use Rattle.table_meaning.specs.Tables.{row_at}
use Rattle.table_text.specs.Writing.{row_front, cells_held}
use Rattle.table_text.proofs.writer.write_row.Given as goal

abbrev pub invariant-loop-col : goal.invariant-loop-col
invariant-loop-col g l =
    ((l.into.items ≡ l.initial.into.items ++ row_front (row_at (g.T.TableSet.named_tables l.tables) l.t l.row) l.col) × KeepsFront l.initial.into.items l.into.items)
    × (cells_held (row_at (g.T.TableSet.named_tables l.tables) l.t l.row) l.col ≡ true)
