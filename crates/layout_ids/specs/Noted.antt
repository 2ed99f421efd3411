-- The ids of a triple's terms.
use Rattle.std.specs.Prelude.{◌⊎◌, List, Contains}
use Rattle.rdf_meaning.specs.Terms.{RdfTerm, RdfTriple}
use Rattle.term_book.specs.Book.{HasId}
use Rattle.layout_sides.specs.declared.sides.IdTriple.{IdTriple}

-- the ids of the three terms
pub record HaveIds (terms : List RdfTerm) (t : RdfTriple) (ids : IdTriple) : Type 0 where
  pub subject : HasId terms t.s ids.subject
  pub predicate : HasId terms t.p ids.predicate
  pub object : HasId terms t.o ids.object

-- one of the three terms has no id
abbrev pub LacksTerm : List RdfTerm → RdfTriple → Type 0
LacksTerm terms t = (¬ Contains terms t.s) ⊎ ((¬ Contains terms t.p) ⊎ (¬ Contains terms t.o))
