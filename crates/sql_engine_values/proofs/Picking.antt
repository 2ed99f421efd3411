-- The rows at numbers.
use Rattle.std.proofs.Common.{◌≡◌, ℕ, zero, suc, List, [], ◌∷◌, ◌++◌, slice_get, Option, Some, None, refl}
use Rattle.table_meaning.specs.declared.cell.Cell.{Cell}
use Rattle.sql_bind_meaning.specs.Values.{row_in}
use Rattle.sql_bind_meaning.specs.Sources.{relation_rows}
use Rattle.sql_engine_values.specs.Places.{rows_at, after_from}

module _ (relations : List (List (List Cell))) where
  pub row_there : (sources rows : List ℕ) (s n r : ℕ) → slice_get rows s ≡ Some n → slice_get sources s ≡ Some r → row_in (rows_at relations sources rows) s ≡ row_in (relation_rows relations r) n
  row_there sources [] s n r h k = cc
  row_there [] (row ∷ rows) s n r h k = cc
  row_there (source ∷ sources) (row ∷ rows) zero n r h k =
      let here : row ≡ n = cc in
      let there : source ≡ r = cc in
      λ i. row_in (relation_rows relations (there i)) (here i)
  row_there (source ∷ sources) (row ∷ rows) (suc s) n r h k = row_there sources rows s n r h k

  pub no_row : (sources rows : List ℕ) (s : ℕ) → slice_get rows s ≡ None → row_in (rows_at relations sources rows) s ≡ []
  no_row sources [] s h = refl
  no_row sources (row ∷ rows) zero h = cc
  no_row [] (row ∷ rows) (suc s) h = no_row [] rows s h
  no_row (source ∷ sources) (row ∷ rows) (suc s) h = no_row sources rows s h

  pub no_source : (sources rows : List ℕ) (s : ℕ) → slice_get sources s ≡ None → row_in (rows_at relations sources rows) s ≡ []
  no_source sources [] s h = refl
  no_source [] (row ∷ rows) zero h = refl
  no_source [] (row ∷ rows) (suc s) h = no_source [] rows s refl
  no_source (source ∷ sources) (row ∷ rows) zero h = cc
  no_source (source ∷ sources) (row ∷ rows) (suc s) h = no_source sources rows s h

pub from_append : (from : Option ℕ) (others : List ℕ) → after_from from others ≡ after_from from [] ++ others
from_append None others = refl
from_append (Some relation) others = refl
