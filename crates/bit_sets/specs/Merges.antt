-- What a block that is merged leaves.
use Rattle.std.specs.Prelude.{◌≡◌, ◌<◌, ◌+◌, ◌++◌, ◌||◌, ℕ, List, nat_eq}
use Rattle.std.specs.List.{AllByRecursion, list_any}
use Rattle.std.specs.Map.{keys_of}
use Rattle.bit_sets.specs.Blocks.{numbers_of, numbers_in, AreWords}

-- each of these blocks is lower
abbrev pub AreBelow : ℕ → List (ℕ × ℕ) → Type 0
AreBelow block es = AllByRecursion (λ other. other < block) (keys_of es)

-- words and a rest take a block in: the words up to it, and what is left of the rest
pub record IsMerged (words rest : List (ℕ × ℕ)) (block word : ℕ) (now left : List (ℕ × ℕ)) : Type 0 where
  pub below : AreBelow (block + 1) now
  pub rising : AreWords (now ++ left)
  pub added : (n : ℕ) → list_any (nat_eq n) (numbers_in (now ++ left)) ≡ (list_any (nat_eq n) (numbers_in (words ++ rest)) || list_any (nat_eq n) (numbers_of (block, word)))
