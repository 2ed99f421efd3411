-- What the reading of a query tells of the text.
use Rattle.std.specs.Prelude.{◌≡◌, ℕ, List, refl}
use Rattle.query_meaning.specs.declared.query.Syntax.{Syntax}
use Rattle.query_meaning.specs.declared.query.Query.{Query}
use Rattle.sparql_meaning.specs.Translation.{translated}
use Rattle.sparql_query_meaning.specs.declared.refusal.QueryRefusal.{QueryRefusal}
use Rattle.sparql_query_meaning.specs.declared.refusal.QueryRefusal.TheVariants as refusal
use Rattle.sparql_query_meaning.specs.Queries.{IsQuery, IsTheQuery}
use Rattle.sparql_refusals.specs.Outcomes.{ReadsAs, Refuses, no_memory, refuses}
use Rattle.sparql_refusals.specs.Laws.{queries_are_not_refused, query_read}
use Rattle.sparql_reading_laws.proofs.OneReading.{texts_are_one_query}

-- save where memory is wanting, the text is no query of the fragment
pub record IsNoQuery (bytes : List ℕ) (r : QueryRefusal) : Type 0 where
  pub none : (r ≡ refusal.NoMemory → ⊥) → (q : Query) → IsQuery bytes q → ⊥

pub query_translated : (bytes : List ℕ) (s : Syntax) (q : Query) → ReadsAs bytes s → q ≡ translated s → IsTheQuery bytes q
query_translated bytes s q r e = let is = query_read bytes s q r e in record { is = is; only = λ p i. texts_are_one_query bytes p q i is }

pub refused_is_none : (bytes : List ℕ) (r : QueryRefusal) → Refuses bytes r → IsNoQuery bytes r
refused_is_none bytes r no_memory = record { none = λ memory q i. absurd (memory refl) }
refused_is_none bytes r (refuses s x) = record { none = λ memory q i. queries_are_not_refused bytes q s i x }

pub ruleset query_paths = (query_translated, refused_is_none, no_memory)
