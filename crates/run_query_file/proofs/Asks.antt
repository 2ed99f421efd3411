-- What the text of a query asks for, by what reading and judging it answers.
use Rattle.std.proofs.Common.{◌≡◌, ℕ, List, true, false, refl, sym, subst}
use Rattle.std.specs.Prelude.{Result, Ok, Err, IfOk, IfErr, IsErrAnd, OnOk}
use Rattle.line_change_meaning.specs.declared.change.Change.{Change}
use Rattle.query_meaning.specs.declared.query.Query.{Query}
use Rattle.sparql_query_meaning.specs.declared.refusal.QueryRefusal.{QueryRefusal}
use Rattle.sparql_query_meaning.specs.declared.refusal.QueryRefusal.TheVariants as refusal
use Rattle.sparql_query_meaning.specs.Queries.{IsTheQuery, QueryRefused}
use Rattle.sparql_refusals.specs.Outcomes.{Refuses, no_memory, refuses}
use Rattle.run_meaning.specs.declared.status.Status.{Status}
use Rattle.run_query_meaning.specs.QueryFile.{status_of, QueryAsks, is_query, is_refused, AsksWork, has_query, has_none}
use Rattle.run_files_meaning.specs.Files.{judged_work}
use Rattle.run_files_meaning.specs.Refusal.{RefusedAs}
use Rattle.run_files_meaning.proofs.Takes.{refused_map}

-- ---- the text

refusal_asked : (text : List ℕ) (r : QueryRefusal) → QueryRefused text r → RefusedAs (status_of r) (λ s. QueryAsks text (Err s))
refusal_asked text refusal.NoMemory x = tt
refusal_asked text (refusal.NotInFragment feature at) x = is_refused (refusal.NotInFragment feature at) x
refusal_asked text (refusal.Syntax at) x = is_refused (refusal.Syntax at) x
refusal_asked text (refusal.UnknownPrefix at) x = is_refused (refusal.UnknownPrefix at) x
refusal_asked text (refusal.Limit which) x = is_refused (refusal.Limit which) x

refused_as : (text : List ℕ) (r : QueryRefusal) → Refuses text r → RefusedAs (status_of r) (λ s. QueryAsks text (Err s))
refused_as text r no_memory = tt
refused_as text r (refuses _ x) = refusal_asked text r x

pub text_refused : (text : List ℕ) (r : QueryRefusal) (status : Status) → Refuses text r → status ≡ status_of r → RefusedAs status (λ s. QueryAsks text (Err s))
text_refused text r status x e = subst (λ (y : Status). RefusedAs y (λ s. QueryAsks text (Err s))) (sym e) (refused_as text r x)

-- ---- behind the changes

none_asked : {W : Type 0} (changes : List Change) (text : List ℕ) (make : Query → W) (status : Status) → RefusedAs status (λ s. QueryAsks text (Err s)) → RefusedAs status (λ s. AsksWork changes text make (Err s))
none_asked changes text make status r = refused_map status (λ s. QueryAsks text (Err s)) (λ s. AsksWork changes text make (Err s)) (λ s h. has_none s h) r

pub none_given : {X : Type 0} (made : Result X Status) (status : Status) (P : X → Type 0) → IsErrAnd made (λ s. s ≡ status) → IfOk made P
none_given (Ok x) status P h = absurd h
none_given (Err s) status P h = tt

pub text_refused_first : {X W : Type 0} (made : Result X Status) (changes : List Change) (text : List ℕ) (make : Query → W) (status : Status) → IsErrAnd made (λ s. s ≡ status)
    → RefusedAs status (λ s. QueryAsks text (Err s)) → IfErr made (λ s. RefusedAs s (λ t. AsksWork changes text make (Err t)))
text_refused_first (Ok x) changes text make status h r = absurd h
text_refused_first {X} {W} (Err s) changes text make status h r = subst (λ (y : Status). RefusedAs y (λ t. AsksWork {W = W} changes text make (Err t))) (sym h) (none_asked changes text make status r)

work_asked : {W : Type 0} (changes : List Change) (text : List ℕ) (make : Query → W) (q : Query) (o : Result W Status) → IsTheQuery text q → judged_work changes (make q) ≡ o → AsksWork changes text make o
work_asked {W} changes text make q o a e = subst (λ (x : Result W Status). AsksWork changes text make x) e (has_query q (is_query q a))

-- the work of a query that was read was done, within the limits
pub work_done : {X W : Type 0} (items : X → List ℕ) (made : Result X Status) (changes : List Change) (text : List ℕ) (make : Query → W) (Fits : W → List ℕ → Type 0) (q : Query) → IsTheQuery text q
    → IfOk made (λ x. Fits (make q) (items x)) → OnOk made (judged_work changes (make q) ≡ Ok (make q))
    → IfOk made (λ x. (work : W) × AsksWork changes text make (Ok work) × Fits work (items x))
work_done items (Ok x) changes text make Fits q a is h = (make q, work_asked changes text make q (Ok (make q)) a h, is)
work_done items (Err status) changes text make Fits q a is h = is

-- or the changes pass a limit
pub work_refused : {X W : Type 0} (made : Result X Status) (changes : List Change) (text : List ℕ) (make : Query → W) (q : Query) → IsTheQuery text q
    → IfErr made (λ status. RefusedAs status (λ s. judged_work changes (make q) ≡ Err s)) → IfErr made (λ status. RefusedAs status (λ s. AsksWork changes text make (Err s)))
work_refused (Ok x) changes text make q a r = r
work_refused (Err status) changes text make q a r =
    refused_map status (λ s. judged_work changes (make q) ≡ Err s) (λ s. AsksWork changes text make (Err s)) (λ s e. work_asked changes text make q (Err s) a e) r
