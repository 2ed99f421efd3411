-- What cells stand for.
use Rattle.std.specs.Prelude.{ℕ, ℤ, pos, negsuc, ◌==◌, nat_le, nat_lt, Bool, true, false, if◌then◌else◌, Option, Some, None}
use Rattle.layout_meaning.specs.declared.value.Value.{Value}
use Rattle.layout_meaning.specs.declared.value.Value.TheVariants.{One, Many}
use Rattle.layout_meaning.specs.Side.{Pair}
use Rattle.primary_rows.specs.declared.cells.Pair as cells

-- a value by its id, or a list by its id
abbrev pub value_of : ℤ → Value
value_of (pos n) = One n
value_of (negsuc n) = Many n

-- a pair of cells that isn't free has a predicate's id
abbrev pub pair_of : cells.Pair → Option Pair
pair_of p = if p.pred == 0 then None else Some (record { pred = p.pred; value = value_of p.value })

abbrev pub fits_cell : ℤ → Bool
fits_cell (pos n) = nat_le n 4294967295
fits_cell (negsuc n) = true

abbrev pub is_zero : ℤ → Bool
is_zero (pos n) = n == 0
is_zero (negsuc n) = false

-- an id has 32 bits, and a free pair is 0 on both cells
abbrev pub fits : cells.Pair → Bool
fits p = if p.pred == 0 then is_zero p.value else fits_cell p.value

-- the id of a list has 64 bits
abbrev pub is_small : Value → Bool
is_small (One n) = true
is_small (Many n) = nat_lt n 4611686018427387904

abbrev pub is_small_if : Option Value → Bool
is_small_if None = true
is_small_if (Some v) = is_small v

abbrev pub pair_with : ℕ → Option Value → Option Pair
pair_with p None = None
pair_with p (Some v) = Some (record { pred = p; value = v })
