use Rattle.std.proofs.Common.{◌≡◌, nat_eq, false, take}
use Rattle.std.specs.List.{list_any}
use Rattle.bit_sets.specs.Blocks.{numbers_in}
use Rattle.bit_sets.proofs.queries.any_in.Given as goal

-- none of those so far
abbrev pub invariant-loop-block : goal.invariant-loop-block
invariant-loop-block l = list_any (λ n. list_any (nat_eq n) (numbers_in l.others)) (numbers_in (take l.block-index l.words)) ≡ false
