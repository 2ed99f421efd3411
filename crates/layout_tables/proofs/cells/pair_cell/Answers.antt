use Rattle.std.proofs.Common.{◌∙◌}
use Rattle.layout_tables.proofs.Places.{pair-at, pair-past}
use Rattle.layout_tables.proofs.cells.pair_cell.Goals as goal

pub returns-then-place-pairs : goal.returns-then-place-pairs
returns-then-place-pairs c = c.half_cell.ensures ∙ pair-at c.args.pairs.now c.args.at _ c.if-place-pairs.true

pub returns-else-place-pairs : goal.returns-else-place-pairs
returns-else-place-pairs c = pair-past c.args.pairs.now c.args.at c.if-place-pairs.false
