-- The greedy colouring of predicates: this project's own rule.
use Rattle.std.specs.Prelude.{◌≡◌, ◌<◌, ℕ, nat_eq, ◌&&◌, Bool, true, false, List, length, Option, Some, None}
use Rattle.std.specs.List.{list_any, AllByRecursion}
use Rattle.std.specs.List.Sorted.{IsStrictlySortedBy}
use Rattle.std.specs.declared.cmp.Ordering.{Ordering}
use Rattle.std.specs.Ordering.{nat_cmp, ordering_then, is_lt}
use Rattle.std.specs.BTreeMap.{is_at}
use Rattle.std.specs.Map.{lookup, keys_of}
use Rattle.pred_colour_meaning.specs.Interference.{Graph, has, neighbours_of}

abbrev pub degree : Graph → ℕ → ℕ
degree g p = length (neighbours_of g p)

-- by falling number of neighbours, then by rising id
abbrev pub rank : Graph → ℕ → ℕ → Ordering
rank g p q = ordering_then (nat_cmp (degree g q) (degree g p)) (nat_cmp p q)

-- the colours of predicates are pairs of a predicate and its column
abbrev pub column_of : List (ℕ × ℕ) → ℕ → Option ℕ
column_of colours p = lookup (is_at (nat_cmp p)) colours

abbrev pub is_column : ℕ → Option ℕ → Bool
is_column c None = false
is_column c (Some d) = nat_eq c d

-- a neighbour that comes before p has this column
abbrev pub is_taken : Graph → List (ℕ × ℕ) → ℕ → ℕ → Bool
is_taken g colours p c = list_any (λ q. is_lt (rank g q p) && is_column c (column_of colours q)) (neighbours_of g p)

-- the least column below k that isn't taken, or none where all are
abbrev pub IsLeastFree : (ℕ → Bool) → ℕ → Option ℕ → Type 0
IsLeastFree taken k None = (c : ℕ) → c < k → taken c ≡ true
IsLeastFree taken k (Some c) = (c < k) × (taken c ≡ false) × ((d : ℕ) → d < c → taken d ≡ true)

-- the colours of these predicates, in the order in which they are given
pub record AreColours (g : Graph) (k : ℕ) (preds : List ℕ) (colours : List (ℕ × ℕ)) : Type 0 where
  pub ordered : IsStrictlySortedBy (rank g) (keys_of colours)
  pub among : AllByRecursion (λ p. has p preds ≡ true) (keys_of colours)
  pub least : (p : ℕ) → has p preds ≡ true → IsLeastFree (is_taken g colours p) k (column_of colours p)

-- each predicate takes the least column below k that no neighbour before it has; it has no colour exactly
-- where these have all k
abbrev pub IsColouring : Graph → ℕ → List (ℕ × ℕ) → Type 0
IsColouring g k colours = AreColours g k (keys_of g) colours

-- a neighbour of p has this column
abbrev pub is_seen : Graph → List (ℕ × ℕ) → ℕ → ℕ → Bool
is_seen g colours p c = list_any (λ q. is_column c (column_of colours q)) (neighbours_of g p)
