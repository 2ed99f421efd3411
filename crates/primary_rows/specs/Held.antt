-- How many values stand in a pair.
use Rattle.std.specs.Prelude.{ℕ, length, Option, Some, None, IsSome}
use Rattle.std.specs.Ordering.{nat_cmp}
use Rattle.std.specs.BTreeMap.{is_at}
use Rattle.std.specs.Map.{lookup}
use Rattle.layout_meaning.specs.declared.value.Value.{Value}
use Rattle.layout_meaning.specs.declared.value.Value.TheVariants.{One, Many}
use Rattle.layout_meaning.specs.Side.{Pair, ValueLists, values_of}

-- a value, or a list that is there
abbrev pub HasList : ValueLists → Value → Type 0
HasList lists (One v) = Unit {0}
HasList lists (Many n) = IsSome (lookup (is_at (nat_cmp n)) lists)

-- the same of what stands in a pair
abbrev pub IsThere : ValueLists → Option Pair → Type 0
IsThere lists None = Unit {0}
IsThere lists (Some p) = HasList lists p.value

-- each element of a list counts
abbrev pub pair_count : ValueLists → Option Pair → ℕ
pair_count lists None = 0
pair_count lists (Some p) = length (values_of lists p.value)
