use Rattle.std.proofs.Common.{◌≡◌, true, ◌++◌, ◌∷◌, ◌+◌, List, ℕ, [], length, sym, ap, ◌∙◌, append_assoc, append-nil}
use Rattle.table_meaning.specs.declared.cell.Cell.{Cell}
use Rattle.table_meaning.specs.CellText.{ended}
use Rattle.table_meaning.specs.Tables.{NamedTable, row_at, table_at}
use Rattle.table_text.specs.Writing.{row_front, rows_front, cells_held}
use Rattle.table_text.proofs.HeldCells.{rows_held_none, rows_held_more}
use Rattle.table_text.proofs.Written.{started, gone_on, rows_front_more, rows_front_none}
use Rattle.table_text.proofs.writer.write_rows.Goals as goal

pub loop-row-init : goal.loop-row-init
loop-row-init g c =
    let tables : List NamedTable = g.T.TableSet.named_tables c.args.tables.now in
    (started c.args.into.now.items c.args.into.now.items [] _ (sym (append-nil c.args.into.now.items)) (rows_front_none tables c.args.t), rows_held_none tables c.args.t)

pub loop-row-preserved : goal.loop-row-preserved
loop-row-preserved g c =
    let tables : List NamedTable = g.T.TableSet.named_tables c.args.tables.now in
    let row : List Cell = row_at tables c.args.t c.loop-row.row in
    let size : ℕ = length (table_at tables c.args.t).schema in
    let held : cells_held row size ≡ true = rw c.requires.columns at c.in_ok-write_row.ensures.held in (
      gone_on c.args.into.now.items (rows_front tables c.args.t c.loop-row.row) (ended (row_front row size)) c.push.new.self.items c.loop-row.into.items (rows_front tables c.args.t (c.loop-row.row + 1))
          c.loop-row.invariant.0.0 c.loop-row.invariant.0.1
          (c.in_ok-push.ensures.items ∙ ap (λ (t : List ℕ). t ++ 10 ∷ []) (c.in_ok-write_row.ensures.ok ∙ ap (λ (n : ℕ). c.loop-row.into.items ++ row_front row n) c.requires.columns)
          ∙ append_assoc c.loop-row.into.items (row_front row size) (10 ∷ []))
          (rows_front_more tables c.args.t c.loop-row.row),
      rows_held_more tables c.args.t c.loop-row.row c.loop-row.invariant.1 held,
    )
