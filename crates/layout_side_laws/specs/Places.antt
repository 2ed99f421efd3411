-- Where the items of a side stand (this project's own).
use Rattle.std.specs.Prelude.{◌≡◌, ◌⊎◌, ℕ, zero, suc, ◌<◌, ◌==◌, ◌&&◌, not, Bool, if◌then◌else◌, List, [], ◌∷◌, map, Option, Some, None, length}
use Rattle.std.specs.List.{filter}
use Rattle.layout_meaning.specs.Side.{Pair, Item, Row, Rows, all_free, first_free, first_of}
use Rattle.layout_meaning.specs.Sound.{pair_at}
use Rattle.layout_meaning.specs.Rows.{SideOf}

abbrev pub same_item : Item → Item → Bool
same_item x y = y.entity == x.entity && (y.pred == x.pred && y.value == x.value)

-- a side whose next list has another number
abbrev pub with_next : SideOf → ℕ → SideOf
with_next s n = record { columns = s.columns; state = record { entities = s.state.entities; lists = s.state.lists; next = n } }

-- the row with a number; an empty one where there is none
abbrev pub row_at : Rows → ℕ → Row
row_at [] n = []
row_at (r ∷ rs) zero = r
row_at (r ∷ rs) (suc n) = row_at rs n

-- a pair, unless it is that of the predicate
abbrev pub but : ℕ → Option Pair → Option Pair
but p None = None
but p (Some q) = if q.pred == p then None else Some q

-- each other pair stands in the row and column where it stood, and no more pairs came there
pub record OthersStay (p : ℕ) (old new : Rows) : Type 0 where
  pub same : (n c : ℕ) → but p (pair_at (row_at new n) c) ≡ but p (pair_at (row_at old n) c)

-- the rows without the pair of a predicate; a row that is then free is dropped
abbrev pub rows_but : ℕ → Rows → Rows
rows_but p rs = filter (λ (r : Row). not (all_free r)) (map (map (but p)) rs)

-- The row of least number that has a free candidate, and the first free candidate in their order; where no row has one, a new
-- last row and the first candidate.
pub record IsFirstPlace (columns : List ℕ) (rs : Rows) (n c : ℕ) : Type 0 where
  pub none_before : (m : ℕ) → m < n → first_free (row_at rs m) columns ≡ None
  pub here : (first_free (row_at rs n) columns ≡ Some c) ⊎ ((n ≡ length rs) × (c ≡ first_of columns))

-- a pair that came into its first place
pub record StandsFirst (columns : List ℕ) (old new : Rows) (pair : Pair) : Type 0 where
  pub row : ℕ
  pub column : ℕ
  pub first : IsFirstPlace columns old row column
  pub there : pair_at (row_at new row) column ≡ Some pair
