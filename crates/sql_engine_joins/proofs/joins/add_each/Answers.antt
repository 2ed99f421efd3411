use Rattle.std.proofs.Common.{◌≡◌, List, length, ap, ◌∙◌, arith}
use Rattle.table_meaning.specs.declared.cell.Cell.{Cell}
use Rattle.sql_bind_meaning.specs.Sources.{relation_rows}
use Rattle.sql_engine_values.specs.Places.{picked}
use Rattle.sql_engine_joins.proofs.Added.{each_more, each_done}
use Rattle.sql_engine_joins.proofs.joins.add_each.Goals as goal

pub loop-row-preserved : goal.loop-row-preserved
loop-row-preserved g c = record {
  added = each_more c.args.sources.now c.args.into.now c.loop-row.into c.add_match.new.into c.args.join.now.on (relation_rows c.args.sources.now.relations c.args.join.now.relation) c.args.left.now.items c.loop-row.left.items c.loop-row.row
      c.loop-row.invariant.added c.loop-row.invariant.left c.in_ok-add_match.ensures.added;
  left = c.in_ok-add_match.ensures.left ∙ c.loop-row.invariant.left;
}

pub returns-clause-added : goal.returns-clause-added
returns-clause-added g c =
    let rows = relation_rows c.args.sources.now.relations c.args.join.now.relation in
    let count : c.count-row-end.result ≡ length rows = c.count-row-end.ensures ∙ ap (λ (relations : List (List (List Cell))). length (relation_rows relations c.args.join.now.relation)) c.relations.ensures in
    let all : c.loop-row.row ≡ length rows = omega (arith, c.loop-row-test.false, c.loop-row.auto.row-end, count) in
    each_done c.args.sources.now c.args.into.now c.loop-row.into c.args.join.now.on rows (picked c.args.sources.now c.args.left.now.items) c.loop-row.row all c.loop-row.invariant.added
