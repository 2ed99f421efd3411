use Rattle.std.proofs.Common.{◌≡◌, ◌++◌, ◌||◌, ℕ, nat_eq, take, drop}
use Rattle.std.specs.List.{list_any}
use Rattle.bit_sets.specs.Blocks.{numbers_in, AreWords}
use Rattle.bit_sets.proofs.words.merge_words.Given as goal

-- what is merged rises with what is left on either side
abbrev pub invariant-loop-block : goal.invariant-loop-block
invariant-loop-block l = record {
  rest : AreWords (l.words.items ++ l.rest);
  others : AreWords (l.words.items ++ drop l.block-index l.others);
  added : (n : ℕ) → list_any (nat_eq n) (numbers_in (l.words.items ++ l.rest)) ≡ (list_any (nat_eq n) (numbers_in l.fn.words.items) || list_any (nat_eq n) (numbers_in (take l.block-index l.others)));
}
