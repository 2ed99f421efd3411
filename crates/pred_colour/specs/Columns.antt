-- The places of the predicates that have each column.
use Rattle.std.specs.Prelude.{◌≡◌, ◌<◌, ℕ, List, length}
use Rattle.pred_colour_meaning.specs.Colouring.{column_of, is_column}
use Rattle.pred_colour.specs.GraphRows.{row_at, stands_in, AreBelow}

-- k sets: at the places of each stand just the predicates that were given its column
pub record AreColumns (preds : List ℕ) (k : ℕ) (given : List (ℕ × ℕ)) (sets : List (List ℕ)) : Type 0 where
  pub count : length sets ≡ k
  pub below : (c : ℕ) → AreBelow (length preds) (row_at sets c)
  pub stand : (c q : ℕ) → c < k → stands_in preds (row_at sets c) q ≡ is_column c (column_of given q)
