-- Rows in the order of the keys, by their numbers.
use Rattle.std.proofs.Common.{◌≡◌, ℕ, suc, ◌+◌, List, [], ◌∷◌, ◌++◌, map, length, Bool, true, false, Option, Some, None, take, drop, slice_get, unwrap_or, refl, sym, ap, ◌∙◌, arith}
use Rattle.std.specs.List.{range_with_len}
use Rattle.std.specs.Cmp.{IsTotalOrder}
use Rattle.std.proofs.lemmas.Cmp.{on_total}
use Rattle.std.proofs.lemmas.List.{take-map, drop-map}
use Rattle.std.proofs.lemmas.List.FromFn.{map-range_with_len_more}
use Rattle.bags.specs.Sort.{sort}
use Rattle.bags.specs.SortLaws.{map-sort}
use Rattle.bags.specs.ItemsLaws.{items_total}
use Rattle.table_meaning.specs.declared.cell.Cell.{Cell}
use Rattle.sql_rows_meaning.specs.Cells.{cell_order}
use Rattle.sql_rows_meaning.specs.Selects.{dropped, kept, unrepeated}
use Rattle.sql_rows_laws.specs.CellLaws.{cell_order_total}
use Rattle.sql_bind_meaning.specs.declared.expression.BoundExpr.{BoundExpr}
use Rattle.sql_bind_meaning.specs.declared.script.BoundKey.{BoundKey}
use Rattle.sql_bind_meaning.specs.declared.script.BoundCore.{BoundCore}
use Rattle.sql_bind_meaning.specs.Values.{Picked}
use Rattle.sql_bind_meaning.specs.Selects.{bound_key_cells, bound_key_order, bound_downs, bound_item_cells, bound_passed, bound_sources, bound_select_rows}
use Rattle.sql_engine_values.specs.Places.{SourceList, picked}
use Rattle.sql_engine_joins.specs.Rows.{PickedList, all_picked}
use Rattle.sql_engine_selects.specs.Numbered.{picked_at, number_order, cells_at, without_first, at_most}
use Rattle.sql_engine_selects.specs.KeyedRows.{Keyed, keyed, keyed_order, row_of}

pub keyed_order_total : (keys : List BoundKey) → IsTotalOrder (keyed_order keys)
keyed_order_total keys = on_total (λ (k : Keyed). k.keys) (items_total cell_order cell_order_total (bound_downs keys))

pub number_order_total : (s : SourceList) (p : PickedList) (keys : List BoundKey) → IsTotalOrder (number_order s p keys)
number_order_total s p keys = on_total (λ (n : ℕ). bound_key_cells keys (picked_at s p n)) (items_total cell_order cell_order_total (bound_downs keys))

map-map : {X Y Z : Type 0} (f : Y → Z) (h : X → Y) (xs : List X) → map f (map h xs) ≡ map (λ x. f (h x)) xs
map-map f h [] = refl
map-map {X} {Y} {Z} f h (x ∷ xs) = ap (λ (zs : List Z). f (h x) ∷ zs) (map-map f h xs)

map-same : (xs : List ℕ) → map (λ x. x) xs ≡ xs
map-same [] = refl
map-same (x ∷ xs) = ap (λ (ys : List ℕ). x ∷ ys) (map-same xs)

-- one number more
pub numbers_next : (n : ℕ) → range_with_len 0 (n + 1) ≡ range_with_len 0 n ++ n ∷ []
numbers_next n =
    let here : 0 + n ≡ n = omega arith in
    sym (map-same (range_with_len 0 (n + 1))) ∙ map-range_with_len_more (λ x. x) 0 n n here ∙ ap (λ (l : List ℕ). l ++ n ∷ []) (map-same (range_with_len 0 n))

-- numbers that are sorted with their rows' keys
pub sorted_keyed : (s : SourceList) (p : PickedList) (keys : List BoundKey) (order : List ℕ) (all sorted : List Keyed) (numbers : List ℕ) → all ≡ map (keyed s p keys) order → sorted ≡ sort (keyed_order keys) all
    → numbers ≡ map row_of sorted → numbers ≡ sort (number_order s p keys) order
sorted_keyed s p keys order all sorted numbers a b c =
    c ∙ ap (map row_of) (b ∙ ap (sort (keyed_order keys)) a ∙ map-sort (keyed_order keys) (keyed s p keys) order)
    ∙ map-map row_of (keyed s p keys) (sort (number_order s p keys) order) ∙ map-same (sort (number_order s p keys) order)

all_numbers : (rows : List (List ℕ)) (f : List ℕ → Picked) (g : ℕ → Picked) (start : ℕ) → ((i : ℕ) (row : List ℕ) → slice_get rows i ≡ Some row → g (start + i) ≡ f row) → map f rows ≡ map g (range_with_len start (length rows))
all_numbers [] f g start same = refl
all_numbers (row ∷ rows) f g start same =
    let now : start + 0 ≡ start = omega arith in
    let here : f row ≡ g start = sym (same 0 row refl) ∙ ap g now in
    let next : (i : ℕ) (r : List ℕ) → slice_get rows i ≡ Some r → g (start + 1 + i) ≡ f r = λ i r h. (let e : start + 1 + i ≡ start + suc i = omega arith in ap g e ∙ same (suc i) r h) in
    (λ i. here i ∷ all_numbers rows f g (start + 1) next i)

-- the rows by their numbers
all_at : (s : SourceList) (p : PickedList) → all_picked s p ≡ map (picked_at s p) (range_with_len 0 (length p.rows))
all_at s p = all_numbers p.rows (picked s) (picked_at s p) 0 (λ i row h. (let e : 0 + i ≡ i = omega arith in ap (picked_at s p) e ∙ ap (λ o. picked s (unwrap_or o [])) h))

-- what is shown of the rows in their order
shown_sorted : (s : SourceList) (p : PickedList) (keys : List BoundKey) (items : List BoundExpr) → map (cells_at s p items) (sort (number_order s p keys) (range_with_len 0 (length p.rows)))
    ≡ map (bound_item_cells items) (sort (bound_key_order keys) (all_picked s p))
shown_sorted s p keys items =
    sym (map-map (bound_item_cells items) (picked_at s p) (sort (number_order s p keys) (range_with_len 0 (length p.rows))))
    ∙ ap (map (bound_item_cells items)) (sym (ap (sort (bound_key_order keys)) (all_at s p) ∙ map-sort (bound_key_order keys) (picked_at s p) (range_with_len 0 (length p.rows))))

cut_same : (most skip : Option ℕ) (rows : List (List Cell)) → at_most most (without_first skip rows) ≡ kept most (dropped skip rows)
cut_same None None rows = refl
cut_same None (Some skip) rows = refl
cut_same (Some most) None rows = refl
cut_same (Some most) (Some skip) rows = refl

cut_map : (most skip : Option ℕ) (f : ℕ → List Cell) (order : List ℕ) → map f (at_most most (without_first skip order)) ≡ kept most (dropped skip (map f order))
cut_map None None f order = refl
cut_map None (Some skip) f order = sym (drop-map f skip order)
cut_map (Some most) None f order = sym (take-map f most order)
cut_map (Some most) (Some skip) f order = sym (ap (take most) (drop-map f skip order) ∙ take-map f most (drop skip order))

module _ (s : SourceList) (c : BoundCore) (p : PickedList) (passed : all_picked s p ≡ bound_passed c.condition (bound_sources s.relations c)) where
  all_shown : map (cells_at s p c.items) (sort (number_order s p c.keys) (range_with_len 0 (length p.rows))) ≡ map (bound_item_cells c.items) (sort (bound_key_order c.keys) (bound_passed c.condition (bound_sources s.relations c)))
  all_shown = shown_sorted s p c.keys c.items ∙ ap (λ (l : List Picked). map (bound_item_cells c.items) (sort (bound_key_order c.keys) l)) passed

  -- DISTINCT before OFFSET and LIMIT
  pub distinct_rows : (shown firsts : List (List Cell)) → c.distinct ≡ true → shown ≡ map (cells_at s p c.items) (sort (number_order s p c.keys) (range_with_len 0 (length p.rows)))
      → firsts ≡ unrepeated true shown → at_most c.most (without_first c.skip firsts) ≡ bound_select_rows s.relations c
  distinct_rows shown firsts distinct a b =
      cut_same c.most c.skip firsts
      ∙ ap (λ (rows : List (List Cell)). kept c.most (dropped c.skip rows)) (b ∙ ap (unrepeated true) (a ∙ all_shown) ∙ ap (λ (d : Bool). unrepeated d (map (bound_item_cells c.items) (sort (bound_key_order c.keys) (bound_passed c.condition (bound_sources s.relations c))))) (sym distinct))

  -- without DISTINCT OFFSET and LIMIT come before the items
  pub plain_rows : (order : List ℕ) → c.distinct ≡ false → order ≡ sort (number_order s p c.keys) (range_with_len 0 (length p.rows))
      → map (cells_at s p c.items) (at_most c.most (without_first c.skip order)) ≡ bound_select_rows s.relations c
  plain_rows order distinct a =
      cut_map c.most c.skip (cells_at s p c.items) order
      ∙ ap (λ (rows : List (List Cell)). kept c.most (dropped c.skip rows))
      (ap (map (cells_at s p c.items)) a ∙ all_shown ∙ ap (λ (d : Bool). unrepeated d (map (bound_item_cells c.items) (sort (bound_key_order c.keys) (bound_passed c.condition (bound_sources s.relations c))))) (sym distinct))
