use Rattle.std.proofs.Common.{◌≡◌, ◌<◌, List, length, Err, alloc_error, ap, ◌∙◌, arith}
use Rattle.table_meaning.specs.declared.cell.Cell.{Cell}
use Rattle.sql_bind_meaning.specs.Sources.{relation_rows}
use Rattle.sql_engine_joins.proofs.Chunks.{together_all}
use Rattle.sql_engine_joins.proofs.runs.in_pieces.Goals as goal

pub returns : goal.returns
returns g c =
    let s = c.args.sources.now in
    let small : 0 < c.div_ceil-size.result = grind arith in
    let count : c.count-count.result ≡ length (relation_rows s.relations c.args.relation) = c.count-count.ensures ∙ ap (λ (relations : List (List (List Cell))). length (relation_rows relations c.args.relation)) c.relations.ensures in
    together_all s c.args.core.now c.args.relation c.div_ceil-size.result c.count-count.result c.count.result (length (relation_rows s.relations c.args.relation)) c.in_ok-runs.runs.items c.deref.result.now (Err alloc_error) c.put_together.result
    small c.in_ok-runs.ensures.len c.in_ok-runs.ensures.each c.deref.ensures.value count c.put_together.ensures.rows c.put_together.ensures.done
