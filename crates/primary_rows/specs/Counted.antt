-- Counts kept under numbers.
use Rattle.std.specs.Prelude.{◌≡◌, ℕ, ◌<◌, List, Option, Some, None}
use Rattle.std.specs.List.{AllByRecursion}
use Rattle.std.specs.Ordering.{nat_cmp}
use Rattle.std.specs.BTreeMap.{is_at}
use Rattle.std.specs.Map.{lookup}
use Rattle.bags.specs.Bag.{total}
use Rattle.layout_meaning.specs.Side.{Rows, Entities}
use Rattle.layout_meaning.specs.Sound.{has_pred}
use Rattle.layout_meaning.specs.Rows.{later, row_total}

abbrev pub or_zero : Option ℕ → ℕ
or_zero None = 0
or_zero (Some n) = n

abbrev pub count_in : List (ℕ × ℕ) → ℕ → ℕ
count_in entries q = or_zero (lookup (is_at (nat_cmp q)) entries)

abbrev pub ArePositive : List (ℕ × ℕ) → Type 0
ArePositive entries = AllByRecursion (λ (e : ℕ × ℕ). 0 < e.1) entries

-- how often a predicate stands behind the first row of an entity
abbrev pub spill_total : ℕ → Entities → ℕ
spill_total p ents = total (λ (en : ℕ × Rows). total (total (has_pred p)) (later en.1)) ents

-- the kept counts of rows and of predicates behind first rows
pub record AreCounted (ents : Entities) (row_count : ℕ) (counts : List (ℕ × ℕ)) : Type 0 where
  pub rows : row_count ≡ row_total ents
  pub spilled : (p : ℕ) → count_in counts p ≡ spill_total p ents
