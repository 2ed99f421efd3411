-- Numbers as blocks with the bits of their words.
use Rattle.std.specs.Prelude.{◌<◌, ◌*◌, ◌%◌, ◌^◌, ℕ, List, nat_eq}
use Rattle.std.specs.Int.{bit_at}
use Rattle.std.specs.List.{AllByRecursion, filter, flat_map, range_with_len}
use Rattle.std.specs.List.Sorted.{IsStrictlySortedBy}
use Rattle.std.specs.Map.{keys_of}
use Rattle.std.specs.Ordering.{nat_cmp}

-- the numbers of a block that its word has, rising: block b has the 64 numbers from 64 * b on, one bit each
unfoldable pub numbers_of : ℕ × ℕ → List ℕ
numbers_of e = filter (λ n. nat_eq (bit_at e.1 (n % 64)) 1) (range_with_len (e.0 * 64) 64)

-- block by block
unfoldable pub numbers_in : List (ℕ × ℕ) → List ℕ
numbers_in es = flat_map numbers_of es

-- a block whose numbers fit 32 bits
abbrev pub IsBlock : ℕ → Type 0
IsBlock block = block < 2 ^ 26

-- blocks with their words, rising
pub record AreWords (es : List (ℕ × ℕ)) : Type 0 where
  pub rising : IsStrictlySortedBy nat_cmp (keys_of es)
  pub blocks : AllByRecursion IsBlock (keys_of es)
