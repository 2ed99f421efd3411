use Rattle.std.proofs.Common.{◌≡◌, ◌++◌, true}
use Rattle.rel_cells.specs.Fronts.{KeepsFront}
use Rattle.table_text.specs.Writing.{rows_front, rows_held}
use Rattle.table_text.proofs.writer.write_rows.Given as goal

abbrev pub invariant-loop-row : goal.invariant-loop-row
invariant-loop-row g l =
    ((l.into.items ≡ l.initial.into.items ++ rows_front (g.T.TableSet.named_tables l.tables) l.t l.row) × KeepsFront l.initial.into.items l.into.items)
    × (rows_held (g.T.TableSet.named_tables l.tables) l.t l.row ≡ true)
