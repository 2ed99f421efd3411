-- Numbers of picked rows with the cells of the rows' keys.
use Rattle.std.specs.Prelude.{ℕ, List}
use Rattle.std.specs.declared.cmp.Ordering.{Ordering}
use Rattle.bags.specs.Sort.{by_items}
use Rattle.table_meaning.specs.declared.cell.Cell.{Cell}
use Rattle.sql_rows_meaning.specs.Cells.{cell_order}
use Rattle.sql_bind_meaning.specs.declared.script.BoundKey.{BoundKey}
use Rattle.sql_bind_meaning.specs.Selects.{bound_key_cells, bound_downs}
use Rattle.sql_engine_values.specs.Places.{SourceList}
use Rattle.sql_engine_joins.specs.Rows.{PickedList}
use Rattle.sql_engine_selects.specs.Numbered.{picked_at}

pub record Keyed : Type 0 where
  pub keys : List Cell
  pub row : ℕ

abbrev pub keyed : SourceList → PickedList → List BoundKey → ℕ → Keyed
keyed s p keys n = record { keys = bound_key_cells keys (picked_at s p n); row = n }

-- by the first key that differs
abbrev pub keyed_order : List BoundKey → Keyed → Keyed → Ordering
keyed_order keys a b = by_items cell_order (bound_downs keys) a.keys b.keys

abbrev pub row_of : Keyed → ℕ
row_of k = k.row
