use Rattle.std.proofs.Common.{subst}
use Rattle.std.specs.List.Sorted.{IsStrictlySortedBy}
use Rattle.std.specs.Ordering.{nat_cmp}
use Rattle.bit_sets.proofs.Rising.{numbers_rise}
use Rattle.bit_sets.proofs.bit_set.BitSet.len.Goals as goal

pub returns-clause-rising : goal.returns-clause-rising
returns-clause-rising c = subst (IsStrictlySortedBy nat_cmp) c.self.view_is (numbers_rise c.self.inside.words.items c.self.invariant.rising)
