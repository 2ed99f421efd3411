-- What holds of each side.
use Rattle.std.specs.Prelude.{◌≡◌, ℕ, ◌^◌, ◌≤◌, ◌<◌, List, length}
use Rattle.bags.specs.Bag.{total}
use Rattle.layout_meaning.specs.Side.{Item, SideState, items, first_of}
use Rattle.layout_meaning.specs.Sound.{IsSound}
use Rattle.layout_meaning.specs.Columns.{ColumnsOf, candidates_of}

-- `count` is how many items the side holds
pub record IsSide (columns : ColumnsOf) (s : SideState) (count : ℕ) : Type 0 where
  pub some : (iri : List ℕ) → 0 < length (candidates_of columns iri)
  pub first : (iri : List ℕ) → first_of (candidates_of columns iri) < columns.count
  pub sound : IsSound columns.count s
  pub ids : s.next ≤ 2 ^ 62
  pub held : count ≡ total (λ (x : Item). 1) (items s)
