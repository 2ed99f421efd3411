-- A graph as its predicates, rising, each with a row: the places of those that it occurs with.
use Rattle.std.specs.Prelude.{◌≡◌, ◌<◌, ℕ, nat_eq, not, ◌&&◌, Bool, true, List, [], ◌∷◌, length, slice_index_or}
use Rattle.std.specs.List.{list_any, filter}
use Rattle.std.specs.List.Sorted.{IsStrictlySortedBy}
use Rattle.std.specs.Ordering.{nat_cmp}
use Rattle.pred_colour_meaning.specs.Interference.{Graph, has}

-- the predicate at a place
abbrev pub pred_at : List ℕ → ℕ → ℕ
pred_at preds place = slice_index_or preds place 0

-- a predicate stands at one of the places
abbrev pub stands_in : List ℕ → List ℕ → ℕ → Bool
stands_in preds places q = list_any (λ j. nat_eq q (pred_at preds j)) places

-- q stands at one of the places, and isn't p
abbrev pub is_other : List ℕ → List ℕ → ℕ → ℕ → Bool
is_other preds places p q = not (nat_eq q p) && stands_in preds places q

-- the predicates at the places but p, rising
abbrev pub others : List ℕ → List ℕ → ℕ → List ℕ
others preds places p = filter (is_other preds places p) preds

-- these of all predicates with their rows: the neighbours of each are those at the places of its row but itself
abbrev pub with_rows : List ℕ → List ℕ → List (List ℕ) → Graph
with_rows all [] rows = []
with_rows all (p ∷ preds) [] = []
with_rows all (p ∷ preds) (row ∷ rows) = (p, others all row p) ∷ with_rows all preds rows

abbrev pub graph_of : List ℕ → List (List ℕ) → Graph
graph_of preds rows = with_rows preds preds rows

-- the row of a place
abbrev pub row_at : List (List ℕ) → ℕ → List ℕ
row_at rows place = slice_index_or rows place []

-- each of the places is below n
abbrev pub AreBelow : ℕ → List ℕ → Type 0
AreBelow n places = (j : ℕ) → has j places ≡ true → j < n

-- a row for each predicate, of places that predicates have
pub record AreRows (preds : List ℕ) (rows : List (List ℕ)) : Type 0 where
  pub rising : IsStrictlySortedBy nat_cmp preds
  pub count : length rows ≡ length preds
  pub below : (i : ℕ) → AreBelow (length preds) (row_at rows i)
