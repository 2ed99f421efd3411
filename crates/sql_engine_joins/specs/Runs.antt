-- Joins and WHERE, row by row of FROM (this project's own).
use Rattle.std.specs.Prelude.{◌≡◌, ℕ, List, [], ◌∷◌, ◌++◌, map, length, Result, Ok, Err}
use Rattle.std.specs.List.{flat_map, range_with_len}
use Rattle.table_meaning.specs.declared.cell.Cell.{Cell}
use Rattle.sql_bind_meaning.specs.declared.script.BoundCore.{BoundCore}
use Rattle.sql_bind_meaning.specs.Values.{Picked, row_in}
use Rattle.sql_bind_meaning.specs.Sources.{relation_rows, with_picked, bound_all_joined}
use Rattle.sql_bind_meaning.specs.Selects.{bound_passed}
use Rattle.sql_engine_values.specs.Places.{SourceList}
use Rattle.sql_engine_joins.specs.Rows.{PickedList, all_picked}

-- a left row beside the rows with these numbers
abbrev pub rows_beside : List (List Cell) → Picked → List ℕ → List Picked
rows_beside rows left numbers = map (λ (i : ℕ). with_picked left (row_in rows i)) numbers

-- picked rows are those before, and behind them others
abbrev pub IsAdded : SourceList → PickedList → PickedList → List Picked → Type 0
IsAdded s old new more = (new.width ≡ old.width) × (all_picked s new ≡ all_picked s old ++ more)

-- a row of FROM, alone
abbrev pub first_at : List (List (List Cell)) → ℕ → ℕ → Picked
first_at relations relation row = with_picked [] (row_in (relation_rows relations relation) row)

-- the number of a row of FROM, alone
abbrev pub one_number : ℕ → List ℕ
one_number n = n ∷ []

-- what all joins and WHERE give for one row of FROM
abbrev pub row_gives : List (List (List Cell)) → BoundCore → ℕ → ℕ → List Picked
row_gives relations c relation row = bound_passed c.condition (bound_all_joined relations c.joins (first_at relations relation row ∷ []))

-- what they give for so many rows of FROM, from start on, over all sources
abbrev pub IsRun : SourceList → BoundCore → ℕ → ℕ → ℕ → PickedList → Type 0
IsRun s c relation start count p = (p.width ≡ length s.numbers) × (all_picked s p ≡ flat_map (row_gives s.relations c relation) (range_with_len start count))

-- the rows of a run that was done
abbrev pub run_rows : {E : Type 0} → Result PickedList E → List (List ℕ)
run_rows (Ok p) = p.rows
run_rows (Err e) = []
