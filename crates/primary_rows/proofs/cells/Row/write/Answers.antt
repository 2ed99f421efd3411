use Rattle.std.proofs.Common.{◌∙◌, ◌<◌, ap, sym, arith, length}
use Rattle.layout_meaning.specs.Side.{write_in_row}
use Rattle.primary_rows.specs.Cells.{pair_with}
use Rattle.primary_rows.proofs.CellSteps.{written-cells, set-fits}
use Rattle.primary_rows.proofs.cells.Row.write.Goals as goal

pub invariant_of-self-then-has : goal.invariant_of-self-then-has
invariant_of-self-then-has c = set-fits c.loop-at.self-inside.pairs.items c.loop-at.at c.pair_with.result c.pair_with.ensures.fits c.loop-at.invariant.fit

pub returns-then-has : goal.returns-then-has
returns-then-has c =
    let within : c.loop-at.at < length c.loop-at.self-inside.pairs.items = omega arith in
    written-cells c.args.pred (pair_with c.args.pred c.args.value) c.loop-at.self-inside.pairs.items c.loop-at.at c.index.result.now c.pair_with.result within (sym c.index.ensures)
    (sym c.has.ensures.value ∙ c.if-has.true) c.pair_with.ensures.pair c.loop-at.invariant.rest
    ∙ ap (write_in_row c.args.pred (pair_with c.args.pred c.args.value)) c.loop-at.invariant.same
