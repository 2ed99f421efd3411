use Rattle.std.proofs.Common.{ap}
use Rattle.std.specs.List.Sorted.{IsStrictlySortedBy}
use Rattle.bit_sets.specs.Blocks.{numbers_in}
use Rattle.bit_sets.proofs.bit_set.BitSet.new.Goals as goal

pub invariant_of-result : goal.invariant_of-result
unfolding IsStrictlySortedBy
invariant_of-result c = rw c.new.ensures.items (record { rising = tt; blocks = tt })

pub returns : goal.returns
unfolding numbers_in
returns c = ap numbers_in c.new.ensures.items
