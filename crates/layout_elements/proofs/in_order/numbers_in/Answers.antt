use Rattle.std.proofs.Common.{ℕ}
use Rattle.layout_meaning.specs.Sound.{times}
use Rattle.layout_elements.proofs.Numbers.{rows-on}
use Rattle.layout_elements.proofs.in_order.numbers_in.Goals as goal

pub loop-row-preserved : goal.loop-row-preserved
loop-row-preserved c = λ (n : ℕ).
    rows-on n c.args.rows.now c.loop-row.row-index _ (times n c.loop-row.numbers.items) (times n c.push_numbers.new.numbers.items) c.loop-row-test.true (c.in_ok-push_numbers.ensures n) (c.loop-row.invariant n)
