-- Rows that are picked from the first sources of a SELECT, all in one list of numbers (this project's own).
use Rattle.std.specs.Prelude.{ℕ, zero, suc, List, [], ◌∷◌, map, take, drop}
use Rattle.sql_bind_meaning.specs.Values.{Picked}
use Rattle.sql_engine_values.specs.Places.{SourceList, picked}

-- rows of so many numbers each: for each source so far the number of its row
pub record PickedList : Type 0 where
  pub width : ℕ
  pub rows : List (List ℕ)

-- a list of numbers, cut into so many rows of one width
abbrev pub in_rows : ℕ → ℕ → List ℕ → List (List ℕ)
in_rows width zero numbers = []
in_rows width (suc count) numbers = take width numbers ∷ in_rows width count (drop width numbers)

-- the rows themselves
abbrev pub all_picked : SourceList → PickedList → List Picked
all_picked s p = map (picked s) p.rows
