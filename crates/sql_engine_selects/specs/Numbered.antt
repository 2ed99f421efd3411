-- Picked rows by their numbers, and what is shown of some of them (this project's own).
use Rattle.std.specs.Prelude.{ℕ, List, [], slice_get, unwrap_or, take, drop, Option, Some, None}
use Rattle.std.specs.declared.cmp.Ordering.{Ordering}
use Rattle.table_meaning.specs.declared.cell.Cell.{Cell}
use Rattle.sql_bind_meaning.specs.declared.expression.BoundExpr.{BoundExpr}
use Rattle.sql_bind_meaning.specs.declared.script.BoundKey.{BoundKey}
use Rattle.sql_bind_meaning.specs.Values.{Picked}
use Rattle.sql_bind_meaning.specs.Selects.{bound_key_order, bound_item_cells}
use Rattle.sql_engine_values.specs.Places.{SourceList, picked}
use Rattle.sql_engine_joins.specs.Rows.{PickedList}

-- the numbers of a row; none where there is no such row
abbrev pub row_at : PickedList → ℕ → List ℕ
row_at p n = unwrap_or (slice_get p.rows n) []

abbrev pub picked_at : SourceList → PickedList → ℕ → Picked
picked_at s p n = picked s (row_at p n)

-- rows by the keys
abbrev pub number_order : SourceList → PickedList → List BoundKey → ℕ → ℕ → Ordering
number_order s p keys a b = bound_key_order keys (picked_at s p a) (picked_at s p b)

-- the items over a row
abbrev pub cells_at : SourceList → PickedList → List BoundExpr → ℕ → List Cell
cells_at s p items n = bound_item_cells items (picked_at s p n)

-- without those of OFFSET
abbrev pub without_first : {X : Type 0} → Option ℕ → List X → List X
without_first None xs = xs
without_first (Some skip) xs = drop skip xs

-- at most as many as LIMIT says
abbrev pub at_most : {X : Type 0} → Option ℕ → List X → List X
at_most None xs = xs
at_most (Some most) xs = take most xs
