-- A text is one query of the fragment at most.
use Rattle.std.specs.Prelude.{ℕ, ◌≡◌, List}
use Rattle.query_meaning.specs.declared.query.Query.{Query}
use Rattle.sparql_query_meaning.specs.Queries.{IsQuery}

abbrev pub TextsAreOneQuery : Type 0
TextsAreOneQuery = (bytes : List ℕ) (p q : Query) → IsQuery bytes p → IsQuery bytes q → p ≡ q
