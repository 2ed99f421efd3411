use Rattle.layout_columns.proofs.Distinct.{rising_sorted}
use Rattle.layout_columns.proofs.sets.rising.Goals as goal

pub returns-clause-rising : goal.returns-clause-rising
returns-clause-rising c = rising_sorted c.in_ok-rising.rising.items _ c.in_ok-rising.ensures.once c.sort_unstable.ensures.permutation c.sort_unstable.ensures.sorted
