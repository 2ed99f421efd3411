-- Lists of triples that are one set.
use Rattle.std.specs.Prelude.{◌≡◌, List}
use Rattle.std.specs.List.{list_any}
use Rattle.rdf_meaning.specs.Terms.{RdfTriple, same_triple}

-- a triple stands in the one list where it stands in the other
pub record HasSameTriples (g h : List RdfTriple) : Type 0 where
  pub members : (t : RdfTriple) → list_any (same_triple t) g ≡ list_any (same_triple t) h
