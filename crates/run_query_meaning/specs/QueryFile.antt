-- What the text of a query file asks for: the one query of the fragment that it is, or its refusal.
use Rattle.std.specs.Prelude.{ℕ, List, Result, Ok, Err}
use Rattle.query_meaning.specs.declared.query.Query.{Query}
use Rattle.sparql_query_meaning.specs.declared.refusal.QueryLimit.{QueryLimit}
use Rattle.sparql_query_meaning.specs.declared.refusal.QueryLimit.TheVariants as limit
use Rattle.sparql_query_meaning.specs.declared.refusal.QueryRefusal.{QueryRefusal}
use Rattle.sparql_query_meaning.specs.declared.refusal.QueryRefusal.TheVariants as refusal
use Rattle.sparql_query_meaning.specs.Queries.{IsTheQuery, QueryRefused}
use Rattle.run_meaning.specs.declared.fault.QueryFault.TheVariants as fault
use Rattle.run_meaning.specs.declared.status.Status.{Status}
use Rattle.run_meaning.specs.declared.status.Status.TheVariants.{BadQuery, Limit, NoMemory}
use Rattle.run_meaning.specs.declared.which.Which.{Which}
use Rattle.run_meaning.specs.declared.which.Which.TheVariants as which
use Rattle.line_change_meaning.specs.declared.change.Change.{Change}
use Rattle.run_files_meaning.specs.Files.{judged_work}

abbrev pub limit_of : QueryLimit → Which
limit_of limit.Query = which.Query
limit_of limit.Patterns = which.Patterns
limit_of limit.Variables = which.Variables
limit_of limit.Groups = which.Groups
limit_of limit.Blocks = which.Blocks
limit_of limit.Depth = which.Depth
limit_of limit.Keys = which.Keys
limit_of limit.Digits = which.Digits

-- a refusal, as a status
abbrev pub status_of : QueryRefusal → Status
status_of refusal.NoMemory = NoMemory
status_of (refusal.NotInFragment feature at) = BadQuery (fault.NotInFragment feature at)
status_of (refusal.Syntax at) = BadQuery (fault.Syntax at)
status_of (refusal.UnknownPrefix at) = BadQuery (fault.UnknownPrefix at)
status_of (refusal.Limit passed) = Limit (limit_of passed)

-- what the text of a query file asks for: at most one of these holds of each text
pub data QueryAsks (text : List ℕ) : Result Query Status → Type 0 where
  is_query : (query : Query) → IsTheQuery text query → QueryAsks text (Ok query)
  is_refused : (r : QueryRefusal) → QueryRefused text r → QueryAsks text (Err (status_of r))

-- The same behind changes, where a query over them makes this work: a refusal of the text goes before the limits on triples and terms.
pub data AsksWork {W : Type 0} (changes : List Change) (text : List ℕ) (make : Query → W) : Result W Status → Type 0 where
  has_query : (query : Query) → QueryAsks text (Ok query) → AsksWork changes text make (judged_work changes (make query))
  has_none : (status : Status) → QueryAsks text (Err status) → AsksWork changes text make (Err status)
