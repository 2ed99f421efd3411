-- The rows of one SELECT (this project's own): WHERE, then a stable sort, then the items, then DISTINCT, OFFSET and LIMIT.
use Rattle.std.specs.Prelude.{ℕ, Bool, true, false, List, [], map, Option, Some, None, take, drop}
use Rattle.std.specs.declared.cmp.Ordering.{Ordering}
use Rattle.bags.specs.Sort.{sort, by_items, same_items, firsts}
use Rattle.table_meaning.specs.declared.cell.Cell.{Cell}
use Rattle.sql_meaning.specs.declared.expression.SqlExpr.{SqlExpr}
use Rattle.sql_meaning.specs.declared.script.Item.{Item}
use Rattle.sql_meaning.specs.declared.script.SqlKey.{SqlKey}
use Rattle.sql_meaning.specs.declared.script.Core.{Core}
use Rattle.sql_rows_meaning.specs.Cells.{cell_order, same_cell}
use Rattle.sql_rows_meaning.specs.Values.{Sight, value_of}
use Rattle.sql_rows_meaning.specs.Tables.{Relations}
use Rattle.sql_rows_meaning.specs.Sources.{first_rows, all_joined, where_true}

abbrev pub passed : Option SqlExpr → List Sight → List Sight
passed None sights = sights
passed (Some e) sights = where_true e sights

abbrev pub key_cells : List SqlKey → Sight → List Cell
key_cells keys sight = map (λ (k : SqlKey). value_of k.expr sight) keys

-- by the first key that differs; DESC reverses a key
abbrev pub key_order : List SqlKey → Sight → Sight → Ordering
key_order keys a b = by_items cell_order (map (λ (k : SqlKey). k.down) keys) (key_cells keys a) (key_cells keys b)

abbrev pub item_cells : List Item → Sight → List Cell
item_cells items sight = map (λ (i : Item). value_of i.expr sight) items

-- DISTINCT keeps the first of equal rows
abbrev pub unrepeated : Bool → List (List Cell) → List (List Cell)
unrepeated true rows = firsts (same_items same_cell) [] rows
unrepeated false rows = rows

abbrev pub dropped : Option ℕ → List (List Cell) → List (List Cell)
dropped None rows = rows
dropped (Some n) rows = drop n rows

abbrev pub kept : Option ℕ → List (List Cell) → List (List Cell)
kept None rows = rows
kept (Some n) rows = take n rows

-- what the sources and WHERE give, in the order of the keys
abbrev pub sorted_sights : Relations → Core → List Sight
sorted_sights relations c = sort (key_order c.keys) (passed c.condition (all_joined relations c.joins (first_rows relations c.from)))

abbrev pub select_rows : Relations → Core → List (List Cell)
select_rows relations c = kept c.most (dropped c.skip (unrepeated c.distinct (map (item_cells c.items) (sorted_sights relations c))))
