-- What is told of tables that stand for triples (this project's own).
use Rattle.std.specs.Prelude.{◌≡◌, ◌&&◌, Bool, List, [], fold, map}
use Rattle.std.specs.List.{filter}
use Rattle.rdf_meaning.specs.Terms.{RdfTerm, RdfTriple}
use Rattle.table_meaning.specs.Tables.{NamedTable}
use Rattle.layout_meaning.specs.Facts.{FactsOf, IdOf}
use Rattle.layout_standing_meaning.specs.Dictionary.{Entry, id_of, has_term}
use Rattle.layout_standing_meaning.specs.Schemas.{LayoutOf}
use Rattle.layout_standing_meaning.specs.Contents.{SideContents, Contents, contents_of}
use Rattle.layout_standing_meaning.specs.Standing.{AreTables, Says, is_spilled_in}
use Rattle.layout_standing_meaning.specs.Stored.{StoreOf, layout_of}
use Rattle.layout_standing_meaning.specs.Changes.{with_term}

-- some entity holds the predicate with this term in a row numbered above 0
abbrev pub is_spilled_term : List Entry → SideContents → RdfTerm → Bool
is_spilled_term es s t = has_term es t && is_spilled_in (id_of es t) s.rows

-- the predicates, out of given ones, that are spilled: in the order given, each once
abbrev pub spilled_among : List Entry → SideContents → List RdfTerm → List RdfTerm
spilled_among es s preds = fold with_term [] (filter (is_spilled_term es s) preds)

-- the columns of both sides, and the spilled ones of given predicates
abbrev pub facts_told : LayoutOf → Contents → List RdfTerm → FactsOf
facts_told layout c preds = record {
  direct = layout.direct;
  reverse = layout.reverse;
  spilled = record { direct = spilled_among c.terms c.direct preds; reverse = spilled_among c.terms c.reverse preds };
}

-- the id that a term has, or 0
abbrev pub id_told : List Entry → RdfTerm → IdOf
id_told es t = record { term = t; id = id_of es t }

-- given terms with their ids, in the order given
abbrev pub ids_told : List Entry → List RdfTerm → List IdOf
ids_told es terms = map (id_told es) terms

-- facts of tables that stand for triples under a layout
pub record AreFacts (layout : LayoutOf) (tables : List NamedTable) (g : List RdfTriple) (preds : List RdfTerm) (facts : FactsOf) : Type 0 where
  pub contents : Contents
  pub exact_tables : AreTables layout contents tables
  pub same_triples : Says layout contents g
  pub told : facts ≡ facts_told layout contents preds

-- ids of terms in such tables
pub record AreIds (layout : LayoutOf) (tables : List NamedTable) (g : List RdfTriple) (terms : List RdfTerm) (ids : List IdOf) : Type 0 where
  pub contents : Contents
  pub exact_tables : AreTables layout contents tables
  pub same_triples : Says layout contents g
  pub told : ids ≡ ids_told contents.terms terms

-- the contents of a store's tables, and what is told of them
abbrev pub store_contents : StoreOf → Contents
store_contents s = contents_of s.direct.state s.reverse.state s.terms

abbrev pub store_facts : StoreOf → List RdfTerm → FactsOf
store_facts s preds = facts_told (layout_of s) (store_contents s) preds

abbrev pub store_ids : StoreOf → List RdfTerm → List IdOf
store_ids s terms = ids_told (store_contents s).terms terms

-- the terms that ids name
abbrev pub terms_named : List IdOf → List RdfTerm
terms_named ids = map (λ (i : IdOf). i.term) ids

-- Tables that stand for triples have these ids and these facts: over the terms that the ids name, both are told of one contents.
pub record HaveFacts (layout : LayoutOf) (tables : List NamedTable) (g : List RdfTriple) (ids : List IdOf) (facts : FactsOf) : Type 0 where
  pub contents : Contents
  pub exact_tables : AreTables layout contents tables
  pub same_triples : Says layout contents g
  pub same_ids : ids ≡ ids_told contents.terms (terms_named ids)
  pub same_facts : facts ≡ facts_told layout contents (terms_named ids)
