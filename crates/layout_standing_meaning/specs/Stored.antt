-- A dictionary and two sides, and the triples that they stand for.
use Rattle.std.specs.Prelude.{ℕ, ◌-◌, ◌≤◌, List, [], map, length, slice_get, unwrap_or}
use Rattle.std.specs.List.{IsDistinct, AllByRecursion}
use Rattle.rdf_meaning.specs.Terms.{RdfTerm, RdfTriple, iri, same_term}
use Rattle.table_meaning.specs.Tables.{NamedTable}
use Rattle.layout_meaning.specs.Side.{Item, items}
use Rattle.layout_meaning.specs.Rows.{SideOf, KeepsToNames}
use Rattle.layout_standing_meaning.specs.Dictionary.{IsTerm, IsTriple, names_of, entries_of}
use Rattle.layout_standing_meaning.specs.Schemas.{LayoutOf}
use Rattle.layout_standing_meaning.specs.Contents.{layout_tables}
use Rattle.layout_standing_meaning.specs.Sides.{SidesOf, AreSides}

pub record StoreOf : Type 0 where
  pub terms : List RdfTerm
  pub direct : SideOf
  pub reverse : SideOf

abbrev pub layout_of : StoreOf → LayoutOf
layout_of s = record { direct = s.direct.columns; reverse = s.reverse.columns }

-- the five tables of a store
abbrev pub tables_of : StoreOf → List NamedTable
tables_of s = layout_tables (layout_of s) s.direct.state s.reverse.state s.terms

-- the term with this id
abbrev pub term_at : List RdfTerm → ℕ → RdfTerm
term_at terms n = unwrap_or (slice_get terms (n - 1)) (iri [])

-- the text of the term with this id
abbrev pub text_of_id : List RdfTerm → ℕ → List ℕ
text_of_id terms n = (term_at terms n).text

-- the triple of an item of the direct side
abbrev pub triple_by : List RdfTerm → Item → RdfTriple
triple_by terms x = record { s = term_at terms x.entity; p = term_at terms x.pred; o = term_at terms x.value }

abbrev pub sides_of : StoreOf → SidesOf
sides_of s = record { direct = s.direct; reverse = s.reverse }

-- the triples that a store holds
abbrev pub stored_triples : StoreOf → List RdfTriple
stored_triples s = map (triple_by s.terms) (items s.direct.state)

abbrev pub IsIdIn : List RdfTerm → ℕ → Type 0
IsIdIn terms n = (1 ≤ n) × (n ≤ length terms)

-- an item of the direct side has three ids, and its terms make a triple
pub record IsItem (terms : List RdfTerm) (x : Item) : Type 0 where
  pub entity : IsIdIn terms x.entity
  pub pred : IsIdIn terms x.pred
  pub value : IsIdIn terms x.value
  pub form : IsTriple (triple_by terms x)

-- What holds of each store: its sides are sound and keep each predicate to the candidates of its IRI, its terms are distinct and
-- have their forms, and the reverse side holds the items of the direct side, turned.
pub record IsStore (s : StoreOf) : Type 0 where
  pub sides : AreSides (sides_of s)
  pub direct_names : KeepsToNames (names_of (entries_of s.terms)) s.direct
  pub reverse_names : KeepsToNames (names_of (entries_of s.terms)) s.reverse
  pub distinct : IsDistinct same_term s.terms
  pub forms : AllByRecursion IsTerm s.terms
  pub each_item : AllByRecursion (IsItem s.terms) (items s.direct.state)
