use Rattle.std.proofs.Common.{◌≡◌, List, slice_get, Some, None, sym, ap, ◌∙◌, arith}
use Rattle.std.proofs.lemmas.Grind.{common_steps}
use Rattle.std.proofs.lemmas.Option.{gets}
use Rattle.table_meaning.specs.declared.cell.Cell.{Cell}
use Rattle.sql_bind_meaning.specs.Values.{cell_in, row_in}
use Rattle.sql_engine_values.specs.Places.{SourceList, picked}
use Rattle.sql_engine_values.proofs.Picking.{row_there, no_row, no_source}
use Rattle.sql_engine_values.proofs.sources.Sources.picked_cell.Goals as goal

pub returns-in-Some-get : goal.returns-in-Some-get
returns-in-Some-get g c =
    let relations = c.self.inside.relations.now in
    let row : slice_get c.args.rows.now c.args.source ≡ Some c.in-Some.row.now = grind (arith, common_steps, gets) in
    let source : slice_get c.self.inside.numbers.items c.args.source ≡ Some c.in-Some-get.relation.now = grind (arith, common_steps, gets) in
    c.cell.ensures ∙ ap (λ (cells : List Cell). cell_in cells c.args.column) (sym (row_there relations c.self.inside.numbers.items c.args.rows.now c.args.source c.in-Some.row.now c.in-Some-get.relation.now row source))
    ∙ ap (λ (s : SourceList). cell_in (row_in (picked s c.args.rows.now) c.args.source) c.args.column) c.self.view_is

pub returns-in-None-get : goal.returns-in-None-get
returns-in-None-get g c =
    let source : slice_get c.self.inside.numbers.items c.args.source ≡ None = grind (arith, common_steps, gets) in
    ap (λ (cells : List Cell). cell_in cells c.args.column) (sym (no_source c.self.inside.relations.now c.self.inside.numbers.items c.args.rows.now c.args.source source))
    ∙ ap (λ (s : SourceList). cell_in (row_in (picked s c.args.rows.now) c.args.source) c.args.column) c.self.view_is

pub returns-in-None : goal.returns-in-None
returns-in-None g c =
    let row : slice_get c.args.rows.now c.args.source ≡ None = grind (arith, common_steps, gets) in
    ap (λ (cells : List Cell). cell_in cells c.args.column) (sym (no_row c.args.self.now.relations c.args.self.now.numbers c.args.rows.now c.args.source row))
