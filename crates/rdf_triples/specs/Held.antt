-- The triples that are present, over the terms of a dictionary; and triples as numbers of terms.
use Rattle.std.specs.Prelude.{◌≡◌, ℕ, ◌-◌, ◌≤◌, ◌⊎◌, List, ◌++◌, [], length, map, slice_get, unwrap_or, Contains}
use Rattle.std.specs.List.{AllByRecursion, IsDistinct}
use Rattle.rdf_meaning.specs.Terms.{RdfTerm, RdfTriple, iri, same_term, same_triple}
use Rattle.term_book.specs.Book.{HasId}
use Rattle.rdf_triples.specs.declared.ids.IdTriple.{IdTriple}

-- what is held: the terms of the dictionary, and the triples that are present
pub record Held : Type 0 where
  pub terms : List RdfTerm
  pub triples : List RdfTriple

-- the term with this number, whose first number is 1; an empty IRI where there is none
abbrev pub term_of : List RdfTerm → ℕ → RdfTerm
term_of terms id = unwrap_or (slice_get terms (id - 1)) (iri [])

abbrev pub triple_of : List RdfTerm → IdTriple → RdfTriple
triple_of terms ids = record { s = term_of terms ids.subject; p = term_of terms ids.predicate; o = term_of terms ids.object }

abbrev pub triples_of : List RdfTerm → List IdTriple → List RdfTriple
triples_of terms present = map (triple_of terms) present

-- the numbers are those of the triple's terms
pub record HasIds (terms : List RdfTerm) (triple : RdfTriple) (ids : IdTriple) : Type 0 where
  pub subject : HasId terms triple.s ids.subject
  pub predicate : HasId terms triple.p ids.predicate
  pub object : HasId terms triple.o ids.object

-- one of the triple's terms isn't held
abbrev pub LacksTerm : List RdfTerm → RdfTriple → Type 0
LacksTerm terms triple = (¬ Contains terms triple.s) ⊎ ((¬ Contains terms triple.p) ⊎ (¬ Contains terms triple.o))

-- a number of one of so many terms
abbrev pub IsIdBelow : ℕ → ℕ → Type 0
IsIdBelow count id = (1 ≤ id) × (id ≤ count)

pub record AreIds (count : ℕ) (ids : IdTriple) : Type 0 where
  pub subject : IsIdBelow count ids.subject
  pub predicate : IsIdBelow count ids.predicate
  pub object : IsIdBelow count ids.object

-- terms are put last only, and stay distinct
pub record Grows (old new : List RdfTerm) : Type 0 where
  pub more : List RdfTerm
  pub is : new ≡ old ++ more
  pub distinct : IsDistinct same_term old → IsDistinct same_term new

-- the terms are distinct, the numbers are those of terms, and no triple stands twice
pub record IsSound (terms : List RdfTerm) (present : List IdTriple) : Type 0 where
  pub distinct : IsDistinct same_term terms
  pub ids : AllByRecursion (AreIds (length terms)) present
  pub once : IsDistinct same_triple (triples_of terms present)
  pub within : length present ≤ 1000000
