-- What is read of a row of a primary table (this project's own).
use Rattle.std.specs.Prelude.{◌≡◌, ℕ, ◌≤◌, ◌<◌, if◌then◌else◌, List, [], ◌∷◌, Option, Some, None, length}
use Rattle.std.specs.List.{AllByRecursion}
use Rattle.layout_meaning.specs.declared.value.Value.{Value}
use Rattle.layout_meaning.specs.Side.{Pair, Row, ValueLists, is_pred, found_values}
use Rattle.layout_meaning.specs.Sound.{pair_at, numbered}
use Rattle.layout_meaning.specs.Rows.{NumberedRow}
use Rattle.layout_standing_meaning.specs.Contents.{SideContents}

-- the value of a pair
abbrev pub value_in : Option Pair → Option Value
value_in None = None
value_in (Some q) = Some q.value

-- the value in the first of these columns that has the predicate
abbrev pub found_in : ℕ → Row → List ℕ → Option Value
found_in p r [] = None
found_in p r (c ∷ cs) = if is_pred p (pair_at r c) then value_in (pair_at r c) else found_in p r cs

-- a pair is free, or gives a value at least
abbrev pub Gives : ValueLists → Option Pair → Type 0
Gives lists None = Unit {0}
Gives lists (Some q) = 0 < length (found_values lists (Some q.value))

-- what reading a side asks: rows are as wide as there are columns, each pair gives a value, and each list's number stands once
pub record IsReadable (k : ℕ) (s : SideContents) : Type 0 where
  pub wide : AllByRecursion (λ (r : NumberedRow). length r.pairs ≡ k) s.rows
  pub given : AllByRecursion (λ (r : NumberedRow). AllByRecursion (Gives s.lists) r.pairs) s.rows
  pub lists_once : (n : ℕ) → numbered n s.lists ≤ 1
