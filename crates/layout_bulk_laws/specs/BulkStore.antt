-- The store of a bulk of triples (this project's own).
use Rattle.std.specs.Prelude.{ℕ, ◌<◌, List, [], fold, map, length}
use Rattle.rdf_meaning.specs.Terms.{RdfTerm, RdfTriple}
use Rattle.line_change_meaning.specs.Present.{with_triple}
use Rattle.layout_meaning.specs.Columns.{ColumnsOf, candidates_of}
use Rattle.layout_meaning.specs.Side.{Item, first_of}
use Rattle.layout_standing_meaning.specs.Schemas.{LayoutOf}
use Rattle.layout_standing_meaning.specs.Sides.{SidesOf, turned}
use Rattle.layout_standing_meaning.specs.Stored.{StoreOf, text_of_id}
use Rattle.layout_standing_meaning.specs.Changes.{with_terms, item_in, store_of}
use Rattle.layout_bulk_meaning.specs.Bulk.{bulk_side}

-- the triples, each once
abbrev pub each_once : List RdfTriple → List RdfTriple
each_once triples = fold with_triple [] triples

-- the terms of the triples, each once, in order of first need: subject, predicate, object
abbrev pub terms_of : List RdfTriple → List RdfTerm
terms_of triples = fold with_terms [] triples

-- each side is the bulk of the items as it has them; the terms give their IRIs to the predicates
abbrev pub bulk_sides : LayoutOf → List RdfTerm → List Item → SidesOf
bulk_sides layout terms items = record {
  direct = bulk_side layout.direct (text_of_id terms) items;
  reverse = bulk_side layout.reverse (text_of_id terms) (map turned items);
}

-- the items of triples on the direct side, each once
abbrev pub bulk_items : List RdfTriple → List Item
bulk_items triples = map (item_in (terms_of triples)) (each_once triples)

-- the store of a bulk: the terms have ids in order of first need, and each side places its items at once
abbrev pub bulk_store : LayoutOf → List RdfTriple → StoreOf
bulk_store layout triples = store_of (terms_of triples) (bulk_sides layout (terms_of triples) (bulk_items triples))

-- each predicate has a column to go to
pub record HaveCandidates (columns : ColumnsOf) : Type 0 where
  pub some : (iri : List ℕ) → 0 < length (candidates_of columns iri)
  pub first : (iri : List ℕ) → first_of (candidates_of columns iri) < columns.count
