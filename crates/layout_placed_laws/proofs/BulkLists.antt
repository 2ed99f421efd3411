-- How many lists a bulk has.
use Rattle.std.proofs.Common.{◌≡◌, ◌≤◌, ℕ, zero, suc, ◌+◌, Bool, true, false, if◌then◌else◌, List, [], ◌∷◌, ◌++◌, length, map, fold, replicate, Option, Some, None, refl, arith}
use Rattle.std.specs.List.{list_any}
use Rattle.std.proofs.lemmas.List.{length_push, length-map}
use Rattle.bags.specs.Bag.{total}
use Rattle.bags.specs.BagLaws.{same-length}
use Rattle.bags.specs.Sort.{sort}
use Rattle.bags.specs.SortLaws.{sort-bag}
use Rattle.rdf_meaning.specs.Terms.{RdfTriple, same_triple}
use Rattle.line_change_meaning.specs.Present.{with_triple}
use Rattle.layout_meaning.specs.Columns.{ColumnsOf, candidates_of}
use Rattle.layout_meaning.specs.Rows.{SideOf, placed_in}
use Rattle.layout_meaning.specs.declared.value.Value.{Value}
use Rattle.layout_meaning.specs.declared.value.Value.TheVariants.{One, Many}
use Rattle.layout_meaning.specs.Side.{Pair, Item, Row, Rows, SideState, rows_of, find, put_at, first_free, first_of, put_or, place_new, with_rows, place_by, placed, is_held}
use Rattle.layout_meaning.specs.Sound.{over}
use Rattle.layout_meaning.proofs.RowSums.{free_row-total}
use Rattle.layout_meaning.proofs.Sums.{over-with_rows, written-total}
use Rattle.layout_standing_meaning.specs.Stored.{text_of_id}
use Rattle.layout_standing_meaning.specs.Changes.{item_in}
use Rattle.layout_standing_meaning.specs.Schemas.{LayoutOf}
use Rattle.layout_standing_meaning.specs.Sides.{turned}
use Rattle.layout_bulk_meaning.specs.Appended.{lists_in, named_lists}
use Rattle.layout_bulk_meaning.specs.Bulk.{by_entity, empty_side, placed_all, bulk_side}
use Rattle.layout_bulk_meaning.proofs.MoreLists.{next-all}
use Rattle.layout_bulk_meaning.proofs.Sides.{count-lists}
use Rattle.layout_bulk_laws.specs.BulkStore.{each_once, terms_of, bulk_items, bulk_store}

-- how many lists the pairs of a side name
abbrev lists_on : SideState → ℕ
lists_on s = over (λ (e : ℕ). lists_in) s.entities

-- ---- a pair that names no list

put-most : (r : Row) (c : ℕ) (o : Option Pair) → lists_in o ≡ 0 → total lists_in (put_at r c o) ≤ total lists_in r
put-most [] c o z = omega arith
put-most (x ∷ r) zero o z = omega arith
put-most (x ∷ r) (suc c) o z = omega (arith, put-most r c o z)

new-most : (k : ℕ) (cs : List ℕ) (p v : ℕ) (rs : Rows) → total (total lists_in) (place_new k cs (record { pred = p; value = One v }) rs) ≤ total (total lists_in) rs
new-most k cs p v [] =
    let a = put-most (replicate k None) (first_of cs) (Some (record { pred = p; value = One v })) refl in
    let b = free_row-total lists_in k refl in
    omega arith
new-most k cs p v (r ∷ rs) = by (new-most k cs p v rs) (first_free r cs)
  where
    pair : Pair
    pair = record { pred = p; value = One v }

    by : total (total lists_in) (place_new k cs pair rs) ≤ total (total lists_in) rs → (o : Option ℕ) → total (total lists_in) (put_or o r pair rs (place_new k cs pair rs)) ≤ total (total lists_in) (r ∷ rs)
    by ih None = omega (arith, ih)
    by ih (Some c) = omega (arith, put-most r c (Some pair) refl)

-- ---- one item makes one list at most

one-by : (o : Option Value) (k : ℕ) (cs : List ℕ) (x : Item) (s : SideState) → find x.pred (rows_of s.entities x.entity) ≡ o → lists_on (place_by o k cs x s) ≤ lists_on s + 1
one-by None k cs x s e =
    let new : Rows = place_new k cs (record { pred = x.pred; value = One x.value }) (rows_of s.entities x.entity) in
    let a : over (λ (e : ℕ). lists_in) (with_rows s.entities x.entity new) + total (total lists_in) (rows_of s.entities x.entity) ≡ lists_on s + total (total lists_in) new =
    over-with_rows (λ (e : ℕ). lists_in) s.entities x.entity new in
    let b : total (total lists_in) new ≤ total (total lists_in) (rows_of s.entities x.entity) = new-most k cs x.pred x.value (rows_of s.entities x.entity) in
    omega (arith, a, b)
one-by (Some (One w)) k cs x s e =
    let a = written-total (λ (e : ℕ). lists_in) x (Some (record { pred = x.pred; value = Many s.next })) (One w) s refl e in
    omega (arith, a)
one-by (Some (Many n)) k cs x s e = omega arith

one-list : (k : ℕ) (cs : List ℕ) (x : Item) (s : SideState) → lists_on (placed k cs x s) ≤ lists_on s + 1
one-list k cs x s = by (is_held x s)
  where
    by : (b : Bool) → lists_on (if b then s else place_by (find x.pred (rows_of s.entities x.entity)) k cs x s) ≤ lists_on s + 1
    by true = omega arith
    by false = one-by (find x.pred (rows_of s.entities x.entity)) k cs x s refl

all-lists : (iri_of : ℕ → List ℕ) (s : SideOf) (xs : List Item) → lists_on (placed_all iri_of s xs).state ≤ lists_on s.state + length xs
all-lists iri_of s [] = omega arith
all-lists iri_of s (x ∷ xs) =
    let a = one-list s.columns.count (candidates_of s.columns (iri_of x.pred)) x s.state in
    let b = all-lists iri_of (placed_in s (iri_of x.pred) x) xs in
    omega (arith, a, b)

-- a side of a bulk gives an id to each of its lists, and so at most as many as it has items
pub bulk-ids : (columns : ColumnsOf) (iri_of : ℕ → List ℕ) (xs : List Item) → (bulk_side columns iri_of xs).state.next ≤ length xs
bulk-ids columns iri_of xs =
    let t : SideState = (placed_all iri_of (empty_side columns) (sort by_entity xs)).state in
    let a = next-all (record { lists = []; next = 0 }) (named_lists t.lists t.entities) in
    let b = count-lists t.lists t.entities in
    let c = all-lists iri_of (empty_side columns) (sort by_entity xs) in
    let d : length (sort by_entity xs) ≡ length xs = same-length (sort by_entity xs) xs (sort-bag by_entity xs) in
    omega (arith, a, b, c, d)

-- ---- the items of triples

once-most : (seen triples : List RdfTriple) → length (fold with_triple seen triples) ≤ length seen + length triples
once-most seen [] = omega arith
once-most seen (t ∷ triples) =
    let a = once-most (with_triple seen t) triples in
    let b = more (list_any (same_triple t) seen) in
    omega (arith, a, b)
  where
    more : (b : Bool) → length (if b then seen else seen ++ t ∷ []) ≤ length seen + 1
    more true = omega arith
    more false = let e = length_push seen t in omega (arith, e)

items-few : (triples : List RdfTriple) → length (bulk_items triples) ≤ length triples
items-few triples =
    let a = length-map (each_once triples) (item_in (terms_of triples)) in
    let b : length (each_once triples) ≤ 0 + length triples = once-most [] triples in
    omega (arith, a, b)

pub direct-ids : (layout : LayoutOf) (triples : List RdfTriple) → (bulk_store layout triples).direct.state.next ≤ length triples
direct-ids layout triples =
    let a = bulk-ids layout.direct (text_of_id (terms_of triples)) (bulk_items triples) in
    let b = items-few triples in
    omega (arith, a, b)

pub reverse-ids : (layout : LayoutOf) (triples : List RdfTriple) → (bulk_store layout triples).reverse.state.next ≤ length triples
reverse-ids layout triples =
    let a = bulk-ids layout.reverse (text_of_id (terms_of triples)) (map turned (bulk_items triples)) in
    let b = length-map (bulk_items triples) turned in
    let c = items-few triples in
    omega (arith, a, b, c)
