-- The rows of one SELECT whose names are places (this project's own): WHERE, then a stable sort, then the items, then DISTINCT,
-- OFFSET and LIMIT.
use Rattle.std.specs.Prelude.{Bool, List, map, Option, Some, None}
use Rattle.std.specs.declared.cmp.Ordering.{Ordering}
use Rattle.bags.specs.Sort.{sort, by_items}
use Rattle.table_meaning.specs.declared.cell.Cell.{Cell}
use Rattle.sql_rows_meaning.specs.Cells.{cell_order}
use Rattle.sql_rows_meaning.specs.Selects.{unrepeated, dropped, kept}
use Rattle.sql_bind_meaning.specs.declared.expression.BoundExpr.{BoundExpr}
use Rattle.sql_bind_meaning.specs.declared.script.BoundKey.{BoundKey}
use Rattle.sql_bind_meaning.specs.declared.script.BoundCore.{BoundCore}
use Rattle.sql_bind_meaning.specs.Values.{Picked, bound_value}
use Rattle.sql_bind_meaning.specs.Sources.{bound_where_true, bound_all_joined, bound_first_rows}

abbrev pub bound_passed : Option BoundExpr → List Picked → List Picked
bound_passed None all = all
bound_passed (Some e) all = bound_where_true e all

abbrev pub bound_key_cells : List BoundKey → Picked → List Cell
bound_key_cells keys picked = map (λ (k : BoundKey). bound_value k.expr picked) keys

-- whether each key goes down
abbrev pub bound_downs : List BoundKey → List Bool
bound_downs keys = map (λ (k : BoundKey). k.down) keys

-- by the first key that differs; DESC reverses a key
abbrev pub bound_key_order : List BoundKey → Picked → Picked → Ordering
bound_key_order keys a b = by_items cell_order (bound_downs keys) (bound_key_cells keys a) (bound_key_cells keys b)

abbrev pub bound_item_cells : List BoundExpr → Picked → List Cell
bound_item_cells items picked = map (λ (e : BoundExpr). bound_value e picked) items

-- what the sources give
abbrev pub bound_sources : List (List (List Cell)) → BoundCore → List Picked
bound_sources relations c = bound_all_joined relations c.joins (bound_first_rows relations c.from)

-- what the sources and WHERE give, in the order of the keys
abbrev pub bound_sorted : List (List (List Cell)) → BoundCore → List Picked
bound_sorted relations c = sort (bound_key_order c.keys) (bound_passed c.condition (bound_sources relations c))

abbrev pub bound_select_rows : List (List (List Cell)) → BoundCore → List (List Cell)
bound_select_rows relations c = kept c.most (dropped c.skip (unrepeated c.distinct (map (bound_item_cells c.items) (bound_sorted relations c))))
