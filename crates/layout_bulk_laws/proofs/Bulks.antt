-- The sides of a bulk.
use Rattle.std.proofs.Common.{◌≡◌, ◌==◌, ℕ, List, [], ◌∷◌, Some, map, refl, arith, subst}
use Rattle.std.specs.List.{AllByRecursion}
use Rattle.bags.specs.Bag.{SameBag}
use Rattle.bags.specs.BagLaws.{same-trans, same-sym, same-map, each-weaker, each-map}
use Rattle.bags.specs.SortLaws.{sort-bag, each-sort}
use Rattle.bags.specs.Sort.{sort}
use Rattle.rdf_meaning.specs.Terms.{RdfTerm}
use Rattle.layout_meaning.specs.Columns.{ColumnsOf}
use Rattle.layout_meaning.specs.Lists.{ListsOf, with_list}
use Rattle.layout_meaning.specs.Side.{Item, Rows, Entities, items}
use Rattle.layout_meaning.specs.Sound.{one_if, IsSound, KeepsTo}
use Rattle.layout_meaning.specs.Rows.{SideOf, KeepsToNames, name_in, columns_by}
use Rattle.layout_standing_meaning.specs.Dictionary.{names_of, entries_of}
use Rattle.layout_standing_meaning.specs.Schemas.{LayoutOf}
use Rattle.layout_standing_meaning.specs.Sides.{turned, AreOnce, IsGoodSide}
use Rattle.layout_standing_meaning.specs.Stored.{StoreOf, IsStore, IsItem, triple_by, text_of_id}
use Rattle.layout_standing_meaning.proofs.Steps.{items-once, each-bag_item}
use Rattle.layout_standing_meaning.proofs.Terms.{term_at-name}
use Rattle.layout_list_laws.specs.InOrder.{AreRising}
use Rattle.layout_list_laws.proofs.Rising.{insert-rises}
use Rattle.layout_bulk_meaning.specs.Appended.{lists_in_rows, given_entity, given_entities, named_lists, with_lists}
use Rattle.layout_bulk_meaning.specs.Bulk.{by_entity, empty_side, placed_all, bulk_side}
use Rattle.layout_bulk_meaning.proofs.Turns.{turn-same}
use Rattle.layout_bulk_meaning.proofs.Sides.{sound-appended, items-appended, keeps-appended}
use Rattle.layout_bulk_laws.specs.BulkStore.{bulk_sides, HaveCandidates}
use Rattle.layout_bulk_laws.specs.BulkLaws.{BulksAreStores, BulksHoldTheirItems, BulksAreInOrder}
use Rattle.layout_bulk_laws.proofs.Placing.{columns-kept, good-all, keeps-all, AreApart, apart-same, bag-all}

sound-empty : (k : ℕ) → IsSound k (record { entities = []; lists = []; next = 0 })
sound-empty k = record {
  rows = tt;
  lists = tt;
  named = λ n. refl;
  apart = λ n. omega arith;
  below = λ n h. refl;
}

good-empty : (columns : ColumnsOf) → HaveCandidates columns → IsGoodSide (empty_side columns)
good-empty columns h = record { sound = sound-empty columns.count; once = λ (e : ℕ). omega arith; some = h.some; first = h.first }

-- the items, placed entity by entity
abbrev placed_bulk : ColumnsOf → (ℕ → List ℕ) → List Item → SideOf
placed_bulk columns iri_of xs = placed_all iri_of (empty_side columns) (sort by_entity xs)

placed-columns : (columns : ColumnsOf) (iri_of : ℕ → List ℕ) (xs : List Item) → (placed_bulk columns iri_of xs).columns ≡ columns
placed-columns columns iri_of xs = columns-kept iri_of (empty_side columns) (sort by_entity xs)

placed-good : (columns : ColumnsOf) (iri_of : ℕ → List ℕ) (xs : List Item) → HaveCandidates columns → IsGoodSide (placed_bulk columns iri_of xs)
placed-good columns iri_of xs h = good-all iri_of (empty_side columns) (sort by_entity xs) (good-empty columns h)

placed-sound : (columns : ColumnsOf) (iri_of : ℕ → List ℕ) (xs : List Item) → HaveCandidates columns → IsSound columns.count (placed_bulk columns iri_of xs).state
placed-sound columns iri_of xs h =
    subst (λ (c : ColumnsOf). IsSound c.count (placed_bulk columns iri_of xs).state) (placed-columns columns iri_of xs) (placed-good columns iri_of xs h).sound

once-given : (n : ℕ) (ents : Entities) → AreOnce ents → AreOnce (given_entities n ents)
once-given n ents once = λ (e : ℕ).
    let k = turn-same (λ (en : ℕ × Rows). lists_in_rows en.1) given_entity (λ (en : ℕ × Rows). one_if (en.0 == e)) (λ (en : ℕ × Rows). one_if (en.0 == e)) (λ n x. refl) n ents in
    let o = once e in
    omega arith

pub bulk-good : (columns : ColumnsOf) (iri_of : ℕ → List ℕ) (xs : List Item) → HaveCandidates columns → IsGoodSide (bulk_side columns iri_of xs)
bulk-good columns iri_of xs h = record {
  sound = sound-appended columns.count (empty_side columns).state (placed_bulk columns iri_of xs).state (sound-empty columns.count) (placed-sound columns iri_of xs h);
  once = once-given 0 (placed_bulk columns iri_of xs).state.entities (placed-good columns iri_of xs h).once;
  some = h.some;
  first = h.first;
}

pub bulk-bag : (columns : ColumnsOf) (iri_of : ℕ → List ℕ) (xs : List Item) → HaveCandidates columns → AreApart xs → SameBag (items (bulk_side columns iri_of xs).state) xs
bulk-bag columns iri_of xs h apart =
    same-trans (items-appended columns.count (empty_side columns).state (placed_bulk columns iri_of xs).state (sound-empty columns.count) (placed-sound columns iri_of xs h))
    (same-trans (bag-all iri_of (empty_side columns) (sort by_entity xs) (good-empty columns h) (apart-same (sort by_entity xs) xs (sort-bag by_entity xs) apart)) (sort-bag by_entity xs))

pub bulk-keeps : (names : List (ℕ × List ℕ)) (columns : ColumnsOf) (iri_of : ℕ → List ℕ) (xs : List Item) → HaveCandidates columns → AllByRecursion (λ (x : Item). name_in names x.pred ≡ Some (iri_of x.pred)) xs
    → KeepsToNames names (bulk_side columns iri_of xs)
bulk-keeps names columns iri_of xs h a =
    let t = placed_bulk columns iri_of xs in
    let kept : KeepsToNames names t = keeps-all names iri_of (empty_side columns) (sort by_entity xs) (good-empty columns h) (record { rows = tt })
    (each-sort by_entity (λ (x : Item). name_in names x.pred ≡ Some (iri_of x.pred)) xs a) in
    let there : KeepsTo (λ (p : ℕ). columns_by columns (name_in names p)) t.state = subst (λ (c : ColumnsOf). KeepsTo (λ (p : ℕ). columns_by c (name_in names p)) t.state) (placed-columns columns iri_of xs) kept in
    keeps-appended (λ (p : ℕ). columns_by columns (name_in names p)) (empty_side columns).state t.state (record { rows = tt }) there

-- ---- lists

rises-all : (l : ListsOf) (xss : List (List ℕ)) → AreRising l.lists → AreRising (with_lists l xss).lists
rises-all l [] r = r
rises-all l (xs ∷ xss) r = rises-all (with_list l xs) xss (insert-rises l.next xs l.lists r)

bulk-rises : (columns : ColumnsOf) (iri_of : ℕ → List ℕ) (xs : List Item) → AreRising (bulk_side columns iri_of xs).state.lists
bulk-rises columns iri_of xs =
    let t = (placed_bulk columns iri_of xs).state in
    rises-all (record { lists = []; next = 0 }) (named_lists t.lists t.entities) tt

pub bulks_in_order : BulksAreInOrder
bulks_in_order layout terms xs = record { direct = bulk-rises layout.direct (text_of_id terms) xs; reverse = bulk-rises layout.reverse (text_of_id terms) (map turned xs) }

-- ---- stores

record Bulk (layout : LayoutOf) (s : StoreOf) (xs : List Item) : Type 0 where
  each : AllByRecursion (IsItem s.terms) xs
  direct_apart : AreApart xs
  reverse_apart : AreApart (map turned xs)
  direct : SameBag (items (bulk_sides layout s.terms xs).direct.state) xs
  reverse : SameBag (items (bulk_sides layout s.terms xs).reverse.state) (map turned xs)

bulk : (layout : LayoutOf) (s : StoreOf) (xs : List Item) → HaveCandidates layout.direct → HaveCandidates layout.reverse → IsStore s → SameBag xs (items s.direct.state) → Bulk layout s xs
bulk layout s xs d r h same =
    let there = same-trans (same-map turned xs (items s.direct.state) same) (same-sym h.sides.same_items) in
    let a = apart-same xs (items s.direct.state) same (items-once s.direct h.sides.direct) in
    let b = apart-same (map turned xs) (items s.reverse.state) there (items-once s.reverse h.sides.reverse) in
    record {
      each = each-bag_item (IsItem s.terms) xs (items s.direct.state) same h.each_item;
      direct_apart = a;
      reverse_apart = b;
      direct = bulk-bag layout.direct (text_of_id s.terms) xs d a;
      reverse = bulk-bag layout.reverse (text_of_id s.terms) (map turned xs) r b;
    }

named : (terms : List RdfTerm) (xs : List Item) → AllByRecursion (IsItem terms) xs → AllByRecursion (λ (x : Item). name_in (names_of (entries_of terms)) x.pred ≡ Some (text_of_id terms x.pred)) xs
named terms xs a = each-weaker (IsItem terms) (λ (x : Item). name_in (names_of (entries_of terms)) x.pred ≡ Some (text_of_id terms x.pred)) (λ x h. term_at-name terms x.pred h.pred) xs a

pub bulks_are_stores : BulksAreStores
bulks_are_stores layout s xs d r h same =
    let b = bulk layout s xs d r h same in
    let sides = bulk_sides layout s.terms xs in
    record {
      sides = record {
        direct = bulk-good layout.direct (text_of_id s.terms) xs d;
        reverse = bulk-good layout.reverse (text_of_id s.terms) (map turned xs) r;
        same_items = same-trans b.reverse (same-sym (same-map turned (items sides.direct.state) xs b.direct));
      };
      direct_names = bulk-keeps (names_of (entries_of s.terms)) layout.direct (text_of_id s.terms) xs d (named s.terms xs b.each);
      reverse_names = bulk-keeps (names_of (entries_of s.terms)) layout.reverse (text_of_id s.terms) (map turned xs) r
          (each-map (λ (x : Item). name_in (names_of (entries_of s.terms)) x.pred ≡ Some (text_of_id s.terms x.pred)) turned xs (named s.terms xs b.each));
      distinct = h.distinct;
      forms = h.forms;
      each_item = each-bag_item (IsItem s.terms) (items sides.direct.state) xs b.direct b.each;
    }

pub bulks_hold : BulksHoldTheirItems
bulks_hold layout s xs d r h same =
    let b = bulk layout s xs d r h same in
    same-map (triple_by s.terms) (items (bulk_sides layout s.terms xs).direct.state) (items s.direct.state) (same-trans b.direct same)
