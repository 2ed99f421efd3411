-- What the rows of the tables say, and their cells.
use Rattle.std.specs.Prelude.{ℕ, ℤ, pos, ◌==◌, ◌&&◌, List, [], ◌∷◌, map, Option, Some, None}
use Rattle.std.specs.List.{filter, flat_map}
use Rattle.table_meaning.specs.declared.cell.Cell.{Cell}
use Rattle.table_meaning.specs.declared.cell.Cell.TheVariants.{Null, Int, Text}
use Rattle.table_meaning.specs.Tables.{NamedTable}
use Rattle.rdf_meaning.specs.Terms.{RdfTerm, RdfTriple}
use Rattle.rdf_value_meaning.specs.Values.{class_of, value_of}
use Rattle.layout_meaning.specs.declared.value.Value.{Value}
use Rattle.layout_meaning.specs.declared.value.Value.TheVariants.{One, Many}
use Rattle.layout_meaning.specs.Side.{Pair, Item, ValueLists, SideState, pair_items}
use Rattle.layout_meaning.specs.Rows.{NumberedRow, numbered_rows}
use Rattle.layout_meaning.specs.Lists.{list_id}
use Rattle.layout_standing_meaning.specs.Dictionary.{Entry, entries_of}
use Rattle.layout_standing_meaning.specs.Schemas.{LayoutOf, FiveRows, five_tables}

-- the rows of a side, and its lists under their numbers
pub record SideContents : Type 0 where
  pub rows : List NumberedRow
  pub lists : ValueLists

-- what the five tables say
pub record Contents : Type 0 where
  pub direct : SideContents
  pub reverse : SideContents
  pub terms : List Entry

abbrev pub value_cell : Value → Cell
value_cell (One v) = Int (pos v)
value_cell (Many n) = Int (list_id n)

-- a free pair is null on both cells
abbrev pub pair_cells : Option Pair → List Cell
pair_cells None = Null ∷ Null ∷ []
pair_cells (Some p) = Int (pos p.pred) ∷ value_cell p.value ∷ []

abbrev pub row_cells : NumberedRow → List Cell
row_cells r = Int (pos r.entity) ∷ Int (pos r.spill) ∷ flat_map pair_cells r.pairs

-- a row for each element of a list
abbrev pub element_cells : ℕ × List ℕ → List (List Cell)
element_cells l = map (λ v. Int (list_id l.0) ∷ Int (pos v) ∷ []) l.1

abbrev pub number_cell : Option ℤ → Cell
number_cell None = Null
number_cell (Some n) = Int n

-- id, class, value or null, text, and tag or datatype
abbrev pub term_cells : Entry → List Cell
term_cells e = Int (pos e.id) ∷ Int (pos (class_of e.term)) ∷ number_cell (value_of e.term) ∷ Text e.term.text ∷ Text e.term.aux ∷ []

abbrev pub rows_said : Contents → FiveRows
rows_said c = record {
  direct = map row_cells c.direct.rows;
  direct_lists = flat_map element_cells c.direct.lists;
  reverse = map row_cells c.reverse.rows;
  reverse_lists = flat_map element_cells c.reverse.lists;
  terms = map term_cells c.terms;
}

-- the tables of two sides and a dictionary: rows by rising entity, then number; lists by falling id; terms by rising id
abbrev pub side_contents : SideState → SideContents
side_contents s = record { rows = numbered_rows s.entities; lists = s.lists }

abbrev pub contents_of : SideState → SideState → List RdfTerm → Contents
contents_of direct reverse terms = record { direct = side_contents direct; reverse = side_contents reverse; terms = entries_of terms }

abbrev pub layout_tables : LayoutOf → SideState → SideState → List RdfTerm → List NamedTable
layout_tables layout direct reverse terms = five_tables layout (rows_said (contents_of direct reverse terms))

-- what the pairs of a side say, one item for each value or element
abbrev pub said : SideContents → List Item
said s = flat_map (λ (r : NumberedRow). flat_map (pair_items s.lists r.entity) r.pairs) s.rows

-- the item of a triple on the direct side, and on the reverse side, by the ids of its terms
abbrev pub direct_item : (RdfTerm → ℕ) → RdfTriple → Item
direct_item id t = record { entity = id t.s; pred = id t.p; value = id t.o }

abbrev pub reverse_item : (RdfTerm → ℕ) → RdfTriple → Item
reverse_item id t = record { entity = id t.o; pred = id t.p; value = id t.s }

-- the values of an entity under a predicate: the one value of its pair, the elements of the list that the pair names, or nothing
abbrev pub held_values : SideContents → ℕ → ℕ → List ℕ
held_values s e p = map (λ (x : Item). x.value) (filter (λ (x : Item). x.entity == e && x.pred == p) (said s))
