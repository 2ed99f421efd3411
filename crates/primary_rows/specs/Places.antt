-- Where a new pair comes among the rows of its entity.
use Rattle.std.specs.Prelude.{ℕ, ◌==◌, nat_lt, length, None, Bool, true, false, not, is_some, if◌then◌else◌, List, [], ◌∷◌}
use Rattle.layout_meaning.specs.Side.{Row, Rows, first_free, write}
use Rattle.bags.specs.Bag.{total}
use Rattle.layout_meaning.specs.Sound.{one_if, has_pred}

-- no row has a free one of the columns
abbrev pub opens : List ℕ → Rows → Bool
opens columns [] = true
opens columns (r ∷ rs) = if is_some (first_free r columns) then false else opens columns rs

-- there is a first row, and it has none
abbrev pub goes_behind : List ℕ → Rows → Bool
goes_behind columns [] = false
goes_behind columns (r ∷ rs) = not (is_some (first_free r columns))

abbrev pub first_row : Rows → Row
first_row [] = []
first_row (r ∷ rs) = r

-- a pair goes: whether a row goes with it
abbrev pub drops : ℕ → Rows → Bool
drops p rs = nat_lt (length (write p None rs)) (length rs)

-- what goes from behind the first row when a pair goes
abbrev pub gone : ℕ → Bool → Bool → Rows → ℕ → ℕ
gone p first dropped new q = if first then (if dropped then total (has_pred q) (first_row new) else 0) else one_if (p == q)
