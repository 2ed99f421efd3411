-- Terms that are kept, and their ids.
use Rattle.std.specs.Prelude.{◌≡◌, ℕ, true, List, nat_eq}
use Rattle.std.specs.List.{list_any}
use Rattle.rdf_meaning.specs.Terms.{RdfTerm, same_term}
use Rattle.layout_standing_meaning.specs.Dictionary.{Entry, id_of, has_term}

-- a term of a dictionary is among the kept ones where its id is among the ids
abbrev pub AreIdsOf : List Entry → List RdfTerm → List ℕ → Type 0
AreIdsOf es kept ids = (t : RdfTerm) → has_term es t ≡ true → list_any (nat_eq (id_of es t)) ids ≡ list_any (same_term t) kept
