use Rattle.std.proofs.Common.{◌≡◌, ◌||◌, ℕ, nat_eq, take}
use Rattle.std.specs.List.{list_any}
use Rattle.bit_sets.specs.Blocks.{numbers_in, AreWords}
use Rattle.bit_sets.proofs.words.add_words.Given as goal

abbrev pub invariant-loop-i : goal.invariant-loop-i
invariant-loop-i l = record {
  words : AreWords l.words.items;
  added : (n : ℕ) → list_any (nat_eq n) (numbers_in l.words.items) ≡ (list_any (nat_eq n) (numbers_in l.fn.words.items) || list_any (nat_eq n) (numbers_in (take l.i l.others)));
}
