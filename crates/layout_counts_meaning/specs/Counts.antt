-- What is counted of triples (this project's own).
use Rattle.std.specs.Prelude.{◌≡◌, ℕ, List, map, length}
use Rattle.std.specs.Set.{distinct_count}
use Rattle.bags.specs.Bag.{total}
use Rattle.rdf_meaning.specs.Terms.{RdfTerm, RdfTriple, same_term}
use Rattle.table_meaning.specs.Tables.{NamedTable}
use Rattle.layout_meaning.specs.Facts.{CountOf, CountsOf}
use Rattle.layout_meaning.specs.Sound.{one_if}
use Rattle.layout_standing_meaning.specs.Schemas.{LayoutOf}
use Rattle.layout_standing_meaning.specs.Contents.{Contents}
use Rattle.layout_standing_meaning.specs.Standing.{AreTables, Says}

-- how many triples have a term as subject, and as object
abbrev pub count_of : List RdfTriple → RdfTerm → CountOf
count_of g t = record {
  term = t;
  as_subject = total (λ (x : RdfTriple). one_if (same_term x.s t)) g;
  as_object = total (λ (x : RdfTriple). one_if (same_term x.o t)) g;
}

-- the terms at one place of triples, each counted once
abbrev pub distinct_at : (RdfTriple → RdfTerm) → List RdfTriple → ℕ
distinct_at at g = distinct_count same_term (map at g)

-- how many triples, distinct subjects and distinct objects there are, and the counts of given terms, in the order given
abbrev pub counts_over : List RdfTriple → List RdfTerm → CountsOf
counts_over g terms = record {
  triples = length g;
  subjects = distinct_at (λ (x : RdfTriple). x.s) g;
  objects = distinct_at (λ (x : RdfTriple). x.o) g;
  constants = map (count_of g) terms;
}

-- the counts of the triples that tables stand for under a layout
pub record AreCounts (layout : LayoutOf) (tables : List NamedTable) (g : List RdfTriple) (terms : List RdfTerm) (counts : CountsOf) : Type 0 where
  pub contents : Contents
  pub exact_tables : AreTables layout contents tables
  pub same_triples : Says layout contents g
  pub counted : counts ≡ counts_over g terms
