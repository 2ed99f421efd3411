use Rattle.std.proofs.Common.{arith}
use Rattle.layout_choice.proofs.Lines.{pairs-more}
use Rattle.layout_choice.proofs.pairs.pairs_on.Goals as goal

pub loop-at-preserved : goal.loop-at-preserved
loop-at-preserved c =
    pairs-more c.args.side c.args.lines.now c.loop-at.at c.index-lines-at.result c.loop-at.pairs.items c.push_pair.new.pairs.items (omega arith) c.index-lines-at.is c.loop-at.invariant c.in_ok-push_pair.ensures
