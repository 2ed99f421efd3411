use Rattle.std.proofs.Common.{◌≡◌, length, take}
use Rattle.bit_sets.specs.Blocks.{numbers_in}
use Rattle.bit_sets.proofs.queries.count_numbers.Given as goal

-- those so far
abbrev pub invariant-loop-word : goal.invariant-loop-word
invariant-loop-word l = l.count ≡ length (numbers_in (take l.word-index l.words))
