use Rattle.std.proofs.Common.{ℕ}
use Rattle.layout_meaning.specs.Sound.{times}
use Rattle.layout_elements.proofs.Numbers.{pairs-on}
use Rattle.layout_elements.proofs.in_order.push_numbers.Goals as goal

pub loop-pair-preserved : goal.loop-pair-preserved
loop-pair-preserved c = λ (n : ℕ).
    pairs-on n c.args.pairs.now c.loop-pair.pair-index _ (times n c.args.numbers.now.items) (times n c.loop-pair.numbers.items) (times n c.push_number.new.numbers.items) c.loop-pair-test.true (c.in_ok-push_number.ensures n) (c.loop-pair.invariant n)
