-- The rows of a side in order, and what is counted of them.
use Rattle.std.specs.Prelude.{◌≡◌, ℕ, ◌+◌, nat_eq, Bool, List, [], ◌∷◌, Option, Some, None, length}
use Rattle.std.specs.List.{list_any, flat_map, IsDistinct}
use Rattle.std.specs.Ordering.{nat_cmp}
use Rattle.std.specs.BTreeMap.{is_at}
use Rattle.std.specs.Map.{lookup}
use Rattle.layout_meaning.specs.Sound.{KeepsTo}
use Rattle.bags.specs.Bag.{total}
use Rattle.layout_meaning.specs.Columns.{ColumnsOf, candidates_of}
use Rattle.layout_meaning.specs.Side.{Item, Row, Rows, Entities, SideState, is_pred, rows_of, pair_items, placed, taken}

-- a side with its columns
pub record SideOf : Type 0 where
  pub columns : ColumnsOf
  pub state : SideState

-- a row with its entity and its number among the entity's rows
pub record NumberedRow : Type 0 where
  pub entity : ℕ
  pub spill : ℕ
  pub pairs : Row

abbrev pub rows_from : ℕ → ℕ → Rows → List NumberedRow
rows_from e n [] = []
rows_from e n (r ∷ rs) = record { entity = e; spill = n; pairs = r } ∷ rows_from e (n + 1) rs

-- the rows of all entities, by rising entity, then by number
abbrev pub numbered_rows : Entities → List NumberedRow
numbered_rows ents = flat_map (λ (en : ℕ × Rows). rows_from en.0 0 en.1) ents

-- the rows behind the first
abbrev pub later : Rows → Rows
later [] = []
later (r ∷ rs) = rs

-- whether some entity holds the predicate in a row behind its first
abbrev pub is_spilled : ℕ → Entities → Bool
is_spilled p ents = list_any (λ (en : ℕ × Rows). list_any (list_any (is_pred p)) (later en.1)) ents

-- how many numbers pass a test: as many as a list without repeats that has just these
pub record IsCountOf (passes : ℕ → Bool) (count : ℕ) : Type 0 where
  pub names : List ℕ
  pub distinct : IsDistinct nat_eq names
  pub exact : (n : ℕ) → list_any (nat_eq n) names ≡ passes n
  pub counted : length names ≡ count

abbrev pub row_total : Entities → ℕ
row_total ents = total (λ (en : ℕ × Rows). length en.1) ents

-- the items of one entity
abbrev pub items_of : SideState → ℕ → List Item
items_of s e = flat_map (flat_map (pair_items s.lists e)) (rows_of s.entities e)

-- a side after an item was placed whose predicate has this IRI
abbrev pub placed_in : SideOf → List ℕ → Item → SideOf
placed_in s iri x = record { columns = s.columns; state = placed s.columns.count (candidates_of s.columns iri) x s.state }

-- a side after an item was taken out
abbrev pub taken_from : SideOf → Item → SideOf
taken_from s x = record { columns = s.columns; state = taken x s.state }

-- the IRI that a list of names gives to a predicate
abbrev pub name_in : List (ℕ × List ℕ) → ℕ → Option (List ℕ)
name_in names p = lookup (is_at (nat_cmp p)) names

abbrev pub columns_by : ColumnsOf → Option (List ℕ) → List ℕ
columns_by c None = []
columns_by c (Some iri) = candidates_of c iri

-- each predicate that the side holds has an IRI, and stands only in columns among the candidates of that IRI
abbrev pub KeepsToNames : List (ℕ × List ℕ) → SideOf → Type 0
KeepsToNames names s = KeepsTo (λ p. columns_by s.columns (name_in names p)) s.state
