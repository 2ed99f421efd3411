-- Ids of terms (this project's own).
use Rattle.std.specs.Prelude.{◌≡◌, ℕ, true, List}
use Rattle.rdf_meaning.specs.Terms.{RdfTerm}
use Rattle.layout_standing_meaning.specs.Dictionary.{Entry, id_of, has_term}

-- the id of a term that is there
pub record IsIdOfTerm (es : List Entry) (n : ℕ) : Type 0 where
  pub term : RdfTerm
  pub there : has_term es term ≡ true
  pub id : id_of es term ≡ n
