use Rattle.std.proofs.Common.{◌≡◌, ◌<◌, length, get_or, ◌∙◌, arith}
use Rattle.table_meaning.specs.TableLaws.{row_reaches}
use Rattle.rel_cells.proofs.Places.{placed_cell}
use Rattle.rel_cells.proofs.mem_tables.cell_in.Goals as goal

reaches : (c : goal.After-row) → c.args.col < length c.row.inside.cells.items
reaches c =
    row_reaches c.rows.inside.schema c.rows.inside.rows.items c.args.row c.args.col c.row.inside.cells.items c.index-row.result.now c.rows.invariant.1
    (rw (← c.rows.view_is) at c.requires.row) (rw (← c.rows.view_is) at c.requires.column) (c.row.view_is ∙ c.index-row.ensures)

pub index-requires : goal.index-requires
index-requires c = let reach : c.args.col < length c.row.inside.cells.items = reaches c in omega arith

pub returns : goal.returns
returns c =
    let row : c.row.inside.cells.items ≡ c.index-row.result.now = c.row.view_is in
    let reach : c.args.col < length c.index-row.result.now = rw (← row) (reaches c.before.before) in
    let cell : c.index.result.now ≡ get_or c.index-row.result.now c.args.col c.index.result.now = rw (← row) c.index.ensures in
    rw (c.of.ensures, ← c.rows.view_is)
    (placed_cell c.rows.inside.rows.items c.args.row c.args.col c.index-row.result.now c.index.result.now (rw (← c.rows.view_is) at c.requires.row) c.index-row.ensures reach cell)
