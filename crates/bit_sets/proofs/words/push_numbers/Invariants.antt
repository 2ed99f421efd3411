use Rattle.std.proofs.Common.{◌≡◌, ◌++◌}
use Rattle.bit_sets.specs.Blocks.{numbers_of}
use Rattle.bit_sets.proofs.words.push_numbers.Given as goal

-- those so far, and those of the bits that are left
abbrev pub invariant-loop-left : goal.invariant-loop-left
invariant-loop-left l = l.numbers.items ++ numbers_of (l.block, l.left) ≡ l.fn.numbers.items ++ numbers_of (l.block, l.word)

abbrev pub decreases-loop-left : goal.decreases-loop-left
decreases-loop-left l = l.left
