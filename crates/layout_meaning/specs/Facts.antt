-- What the layout tells of tables, plainly: spilled predicates, ids and counts of given terms.
use Rattle.std.specs.Prelude.{ℕ, List}
use Rattle.rdf_meaning.specs.Terms.{RdfTerm}
use Rattle.layout_meaning.specs.Columns.{ColumnsOf}

-- the predicates, out of given ones, that are spilled on each side
pub record SpilledTerms : Type 0 where
  pub direct : List RdfTerm
  pub reverse : List RdfTerm

-- the columns of both sides, and the spilled predicates out of given ones
pub record FactsOf : Type 0 where
  pub direct : ColumnsOf
  pub reverse : ColumnsOf
  pub spilled : SpilledTerms

-- a term and its id, or 0 where it has none
pub record IdOf : Type 0 where
  pub term : RdfTerm
  pub id : ℕ

-- a term, and how many triples have it as subject and as object
pub record CountOf : Type 0 where
  pub term : RdfTerm
  pub as_subject : ℕ
  pub as_object : ℕ

-- how many triples, subjects and objects there are, and the counts of given terms
pub record CountsOf : Type 0 where
  pub triples : ℕ
  pub subjects : ℕ
  pub objects : ℕ
  pub constants : List CountOf
