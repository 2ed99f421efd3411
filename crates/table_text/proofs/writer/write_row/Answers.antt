use Rattle.std.proofs.Common.{◌≡◌, true, ◌++◌, ◌+◌, List, ℕ, [], sym, ap, ◌∙◌, append_assoc, append-nil, slice_get}
use Rattle.std.specs.Prelude.{unwrap_or}
use Rattle.table_meaning.specs.declared.cell.Cell.{Cell}
use Rattle.table_meaning.specs.declared.cell.Cell.TheVariants.{Null}
use Rattle.table_meaning.specs.CellText.{cell_text}
use Rattle.table_meaning.specs.CellText.{is_held_cell}
use Rattle.table_meaning.specs.Tables.{row_at}
use Rattle.table_text.specs.Writing.{row_front, tab_before}
use Rattle.table_text.proofs.HeldCells.{cells_held_none, cells_held_more}
use Rattle.table_text.proofs.Written.{started, gone_on, row_front_more, row_front_none}
use Rattle.table_text.proofs.writer.write_row.Goals as goal

pub loop-col-init : goal.loop-col-init
loop-col-init g c =
    let row : List Cell = row_at (g.T.TableSet.named_tables c.args.tables.now) c.args.t c.args.row in
    (started c.args.into.now.items c.args.into.now.items [] _ (sym (append-nil c.args.into.now.items)) (row_front_none row), cells_held_none row)

pub loop-col-preserved : goal.loop-col-preserved
loop-col-preserved g c =
    let row : List Cell = row_at (g.T.TableSet.named_tables c.args.tables.now) c.args.t c.args.row in
    let cell : Cell = unwrap_or (slice_get row c.loop-col.col) Null in
    let held : is_held_cell cell ≡ true = rw c.cell_at.ensures at c.write_cell.ensures.held in (
      gone_on c.args.into.now.items (row_front row c.loop-col.col) (tab_before c.loop-col.col ++ cell_text cell) c.write_cell.new.onto.items c.loop-col.into.items (row_front row (c.loop-col.col + 1))
          c.loop-col.invariant.0.0 c.loop-col.invariant.0.1
          (c.in_ok-write_cell.ensures.ok ∙ ap (λ (x : Cell). c.write_tab.new.into.items ++ cell_text x) c.cell_at.ensures
          ∙ ap (λ (t : List ℕ). t ++ cell_text cell) c.in_ok-write_tab.ensures.ok ∙ append_assoc c.loop-col.into.items (tab_before c.loop-col.col) (cell_text cell))
          (row_front_more row c.loop-col.col),
      cells_held_more row c.loop-col.col c.loop-col.invariant.1 held,
    )
