use Rattle.std.proofs.Common.{◌≡◌, take}
use Rattle.bit_sets.specs.Blocks.{numbers_in}
use Rattle.bit_sets.proofs.words.all_numbers.Given as goal

abbrev pub invariant-loop-block : goal.invariant-loop-block
invariant-loop-block l = l.numbers.items ≡ numbers_in (take l.block-index l.words)
