use Rattle.std.proofs.Common.{◌<◌, ◌∙◌, sym, ap, arith, length}
use Rattle.layout_meaning.specs.Side.{Row, Pair, first_free, place_new}
use Rattle.primary_rows.proofs.RowSteps.{placed_here, same_read}
use Rattle.primary_rows.proofs.rows.EntityRows.place_new.Goals as goal

pub returns-in-Some-clause-ok : goal.returns-in-Some-clause-ok
returns-in-Some-clause-ok c =
    let pair : Pair = record { pred = c.args.pred; value = c.args.value } in
    let within : c.loop-at.at < length c.loop-at.self-inside.rows.items = omega arith in
    let one = same_read c.loop-at.self-inside.rows.items c.loop-at.at c.index.result.now c.index_mut.result.now within c.index.ensures c.index_mut.ensures.value in
    let free = ap (λ (row : Row). first_free row c.args.columns.now) (sym one) ∙ sym c.in-Some.ensures in
    placed_here c.args.width c.args.columns.now pair c.loop-at.self-inside.rows.items c.loop-at.at c.in-Some.column c.index_mut.result.now c.put.new.self
    (place_new c.args.width c.args.columns.now pair c.loop-at.self-inside.rows.items) within (sym c.index_mut.ensures.value) free c.put.ensures c.loop-at.invariant.rest
    ∙ ap (place_new c.args.width c.args.columns.now pair) c.loop-at.invariant.same
