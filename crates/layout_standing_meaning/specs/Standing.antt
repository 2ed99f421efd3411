-- Tables that stand for triples.
use Rattle.std.specs.Prelude.{◌≡◌, ℕ, suc, ◌≤◌, ◌==◌, ◌&&◌, not, Bool, true, false, if◌then◌else◌, List, map, Option, Some, None, length}
use Rattle.std.specs.List.{list_any, AllByRecursion}
use Rattle.bags.specs.Bag.{total, SameBag}
use Rattle.table_meaning.specs.Tables.{NamedTable}
use Rattle.rdf_meaning.specs.Terms.{RdfTriple, same_triple}
use Rattle.layout_meaning.specs.Columns.{ColumnsOf}
use Rattle.layout_meaning.specs.declared.value.Value.{Value}
use Rattle.layout_meaning.specs.declared.value.Value.TheVariants.{One, Many}
use Rattle.layout_meaning.specs.Side.{Pair, all_free, is_pred}
use Rattle.layout_meaning.specs.Sound.{one_if, has_pred, names, numbered, IsSoundList, RowKeeps}
use Rattle.layout_meaning.specs.Rows.{NumberedRow, name_in, columns_by}
use Rattle.layout_standing_meaning.specs.Dictionary.{Entry, AreEntries, HasIds, IsTriple, id_of, is_id, names_of}
use Rattle.layout_standing_meaning.specs.Schemas.{LayoutOf, FiveRows, five_tables}
use Rattle.layout_standing_meaning.specs.Contents.{SideContents, Contents, rows_said, said, direct_item, reverse_item}

-- the row of an entity with a number
abbrev pub is_row : ℕ → ℕ → NumberedRow → Bool
is_row e n r = r.entity == e && r.spill == n

-- an id, or a list's number
abbrev pub IsValue : List Entry → Value → Type 0
IsValue es (One v) = is_id es v ≡ true
IsValue es (Many n) = Unit {0}

-- a free pair, or the id of a predicate and a value
abbrev pub IsPair : List Entry → Option Pair → Type 0
IsPair es None = Unit {0}
IsPair es (Some p) = (is_id es p.pred ≡ true) × IsValue es p.value

-- the candidates of a predicate by its id
abbrev pub candidates_at : ColumnsOf → List Entry → ℕ → List ℕ
candidates_at columns es p = columns_by columns (name_in (names_of es) p)

-- What holds of the two tables of a side.
-- Pairs: each row is as wide as there are columns; entities, predicates, values and elements are ids of terms.
-- Rows: an entity has the rows 0, 1, .. without a gap, each once, and no row is free.
-- Predicates: an entity has each in at most one pair, in a candidate column.
-- Lists: each has two elements at least, all distinct, and its id stands in exactly one pair; no pair has the id of another list.
pub record SideStands (columns : ColumnsOf) (es : List Entry) (s : SideContents) : Type 0 where
  pub wide : AllByRecursion (λ (r : NumberedRow). length r.pairs ≡ columns.count) s.rows
  pub entities : AllByRecursion (λ (r : NumberedRow). is_id es r.entity ≡ true) s.rows
  pub pairs : AllByRecursion (λ (r : NumberedRow). AllByRecursion (IsPair es) r.pairs) s.rows
  pub elements : AllByRecursion (λ (l : ℕ × List ℕ). AllByRecursion (λ v. is_id es v ≡ true) l.1) s.lists
  pub rows_once : (e n : ℕ) → total (λ (r : NumberedRow). one_if (is_row e n r)) s.rows ≤ 1
  pub no_gap : (e n : ℕ) → list_any (is_row e (suc n)) s.rows ≡ true → list_any (is_row e n) s.rows ≡ true
  pub rows_full : AllByRecursion (λ (r : NumberedRow). all_free r.pairs ≡ false) s.rows
  pub one_pair : (e p : ℕ) → total (λ (r : NumberedRow). if r.entity == e then total (has_pred p) r.pairs else 0) s.rows ≤ 1
  pub in_columns : AllByRecursion (λ (r : NumberedRow). RowKeeps (candidates_at columns es) r.pairs) s.rows
  pub lists_sound : AllByRecursion (λ (l : ℕ × List ℕ). IsSoundList l.1) s.lists
  pub lists_once : (n : ℕ) → numbered n s.lists ≤ 1
  pub named_once : (n : ℕ) → total (λ (r : NumberedRow). total (names n) r.pairs) s.rows ≡ numbered n s.lists

-- Exactly these five tables have these contents. The order of the rows doesn't count. No cell is null but those of free pairs
-- and the values of terms that have none.
pub record AreTables (layout : LayoutOf) (c : Contents) (tables : List NamedTable) : Type 0 where
  pub rows : FiveRows
  pub five : tables ≡ five_tables layout rows
  pub direct : SameBag rows.direct (rows_said c).direct
  pub direct_lists : SameBag rows.direct_lists (rows_said c).direct_lists
  pub reverse : SameBag rows.reverse (rows_said c).reverse
  pub reverse_lists : SameBag rows.reverse_lists (rows_said c).reverse_lists
  pub terms : SameBag rows.terms (rows_said c).terms

-- a list of triples, each once
pub record AreTriples (g : List RdfTriple) : Type 0 where
  pub forms : AllByRecursion IsTriple g
  pub once : (t : RdfTriple) → total (λ (u : RdfTriple). one_if (same_triple u t)) g ≤ 1

-- The contents of tables stand for triples: each pair of the direct side, with one item for each element of a list, says a triple
-- that is there with the entity as subject, each triple that is there is said, and none twice. The reverse side says the same
-- triples with the entity as object.
pub record Says (layout : LayoutOf) (c : Contents) (g : List RdfTriple) : Type 0 where
  pub own_terms : AreEntries c.terms
  pub direct_side : SideStands layout.direct c.terms c.direct
  pub reverse_side : SideStands layout.reverse c.terms c.reverse
  pub triples : AreTriples g
  pub ids : AllByRecursion (HasIds c.terms) g
  pub direct_triples : SameBag (said c.direct) (map (direct_item (id_of c.terms)) g)
  pub reverse_triples : SameBag (said c.reverse) (map (reverse_item (id_of c.terms)) g)

-- tables stand for triples under a layout
pub record StandsFor (layout : LayoutOf) (tables : List NamedTable) (g : List RdfTriple) : Type 0 where
  pub contents : Contents
  pub exact_tables : AreTables layout contents tables
  pub same_triples : Says layout contents g

-- some entity holds the predicate in a row numbered above 0
abbrev pub is_spilled_in : ℕ → List NumberedRow → Bool
is_spilled_in p rows = list_any (λ (r : NumberedRow). not (r.spill == 0) && list_any (is_pred p) r.pairs) rows
