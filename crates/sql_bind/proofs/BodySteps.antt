-- Bodies and steps, one SELECT after another.
use Rattle.std.proofs.Common.{◌≡◌, ℕ, ◌+◌, ◌<◌, List, [], ◌∷◌, ◌++◌, map, length, take, drop, get_or, Option, Some, None, Ok, Err, sym, ap, ◌∙◌, arith}
use Rattle.std.specs.Prelude.{is_some}
use Rattle.std.proofs.lemmas.List.{take_more, map-append}
use Rattle.table_meaning.specs.declared.schema.Column.{Column}
use Rattle.sql_meaning.specs.declared.script.Core.{Core}
use Rattle.sql_meaning.specs.declared.script.Step.{Step}
use Rattle.sql_rows_meaning.specs.declared.fault.Fault.{Fault}
use Rattle.sql_rows_meaning.specs.declared.fault.FaultKind.{FaultKind}
use Rattle.sql_rows_meaning.specs.declared.fault.FaultKind.TheVariants.{Twice}
use Rattle.sql_rows_meaning.specs.declared.schema.NamedSchema.{NamedSchema}
use Rattle.sql_rows_meaning.specs.Faults.{Checked, and_then, unless, in_select}
use Rattle.sql_rows_meaning.specs.Scopes.{Schemas}
use Rattle.sql_rows_laws.specs.SourceLaws.{some-same}
use Rattle.sql_rows_meaning.specs.Binding.{check_select, check_others, check_body, check_step_body}
use Rattle.sql_bind_meaning.specs.declared.script.BoundCore.{BoundCore}
use Rattle.sql_bind_meaning.specs.declared.script.BoundBody.{BoundBody}
use Rattle.sql_bind_laws.specs.Places.{place_core, place_body}
use Rattle.sql_bind.specs.declared.refusal.BindRefusal.{BindRefusal}
use Rattle.sql_bind.specs.Refusals.{fault_of}
use Rattle.sql_bind.proofs.Fronts.{at-front}

abbrev pub bodies : List BoundCore → BoundBody
bodies cores = record { cores = cores }

pub others_next : (schemas : Schemas) (n : ℕ) (first columns : List Column) (all : List Core) (i : ℕ) (x : Core) (w : Checked Fault (List Column)) → i < length all → x ≡ get_or all i x →
    w ≡ check_others schemas (n + i) first (drop i all) → in_select (n + i) (check_select schemas (Some first) x) ≡ Ok columns → w ≡ check_others schemas (n + (i + 1)) first (drop (i + 1) all)
others_next schemas n first columns all i x w within is was fine =
    let next : n + i + 1 ≡ n + (i + 1) = omega arith in
    was ∙ ap (check_others schemas (n + i) first) (at-front all i x within is)
    ∙ ap (λ (c : Checked Fault (List Column)). and_then c (λ _. check_others schemas (n + i + 1) first (drop (i + 1) all))) fine
    ∙ ap (λ (m : ℕ). check_others schemas m first (drop (i + 1) all)) next

pub others_fault : (schemas : Schemas) (n : ℕ) (first : List Column) (all : List Core) (i : ℕ) (x : Core) (w : Checked Fault (List Column)) (f : Fault) → i < length all → x ≡ get_or all i x →
    w ≡ check_others schemas (n + i) first (drop i all) → in_select (n + i) (check_select schemas (Some first) x) ≡ Err f → w ≡ Err f
others_fault schemas n first all i x w f within is was fault =
    was ∙ ap (check_others schemas (n + i) first) (at-front all i x within is)
    ∙ ap (λ (c : Checked Fault (List Column)). and_then c (λ _. check_others schemas (n + i + 1) first (drop (i + 1) all))) fault

pub cores_more : (known : List NamedSchema) (all : List Core) (i : ℕ) (x : Core) → i < length all → x ≡ get_or all i x → map (place_core known) (take (i + 1) all) ≡ map (place_core known) (take i all) ++ place_core known x ∷ []
cores_more known all i x within is =
    let taken : take (i + 1) all ≡ take i all ++ x ∷ [] = take_more all i x within ∙ ap (λ (z : Core). take i all ++ z ∷ []) (sym is) in
    ap (map (place_core known)) taken ∙ map-append (place_core known) (take i all) (x ∷ [])

pub ruleset others_steps = (others_next, others_fault, cores_more)

abbrev others_behind : Schemas → ℕ → List Core → Checked Fault (List Column) → Checked Fault (List Column)
others_behind schemas n cores one = and_then one (λ first. check_others schemas (n + 1) first cores)

pub body_none : (schemas : Schemas) (n : ℕ) (all : List Core) → all ≡ [] → check_body schemas n all ≡ Ok []
body_none schemas n all h = ap (check_body schemas n) h

pub body_fine : (schemas : Schemas) (n : ℕ) (all : List Core) (c : Core) (cores : List Core) (first columns : List Column) → all ≡ c ∷ cores → in_select n (check_select schemas None c) ≡ Ok first → check_others schemas (n + 1) first cores ≡ Ok columns →
    check_body schemas n all ≡ Ok columns
body_fine schemas n all c cores first columns h one others = ap (check_body schemas n) h ∙ ap (others_behind schemas n cores) one ∙ others

pub body_no_first : (schemas : Schemas) (n : ℕ) (all : List Core) (c : Core) (cores : List Core) (f : Fault) → all ≡ c ∷ cores → in_select n (check_select schemas None c) ≡ Err f → check_body schemas n all ≡ Err f
body_no_first schemas n all c cores f h one = ap (check_body schemas n) h ∙ ap (others_behind schemas n cores) one

pub body_no_others : (schemas : Schemas) (n : ℕ) (all : List Core) (c : Core) (cores : List Core) (first : List Column) (f : Fault) → all ≡ c ∷ cores → in_select n (check_select schemas None c) ≡ Ok first → check_others schemas (n + 1) first cores ≡ Err f →
    check_body schemas n all ≡ Err f
body_no_others schemas n all c cores first f h one others = ap (check_body schemas n) h ∙ ap (others_behind schemas n cores) one ∙ others

pub none_placed : (known : List NamedSchema) (all : List Core) (bound : List BoundCore) → all ≡ [] → bound ≡ [] → bound ≡ map (place_core known) all
none_placed known all bound h none = none ∙ ap (map (place_core known)) (sym h)

pub all_placed : (known : List NamedSchema) (all : List Core) (c : Core) (cores : List Core) (bound : List BoundCore) → all ≡ c ∷ cores → bound ≡ place_core known c ∷ map (place_core known) cores → bound ≡ map (place_core known) all
all_placed known all c cores bound h made = made ∙ ap (map (place_core known)) (sym h)

pub body_placed : (known : List NamedSchema) (all : List Core) (bound : List BoundCore) → bound ≡ map (place_core known) all → bodies bound ≡ place_body known all
body_placed known all bound h = ap bodies h

pub ruleset body_steps = (body_none, body_fine, body_no_first, body_no_others, none_placed, all_placed, body_placed)

-- ---- one SELECT under its number

pub numbered_fine : (n : ℕ) (c : Checked FaultKind (List Column)) (columns : List Column) → c ≡ Ok columns → in_select n c ≡ Ok columns
numbered_fine n c columns h = ap (in_select n) h

abbrev refused : Fault → Checked Fault (List Column)
refused f = Err f

abbrev pub numbered : FaultKind → ℕ → Fault
numbered k n = record { kind = k; select = n }

pub numbered_fault : (n : ℕ) (c : Checked FaultKind (List Column)) (k : FaultKind) (e : BindRefusal) (f : Fault) → c ≡ Err k → fault_of e ≡ Some (numbered k n) → fault_of e ≡ Some f → in_select n c ≡ Err f
numbered_fault n c k e f h told is =
    let same : numbered k n ≡ f = some-same (numbered k n) f (sym told ∙ is) in
    ap (in_select n) h ∙ ap refused same

pub ruleset numbered_steps = (numbered_fine, numbered_fault)

pub step_new : (schemas : Schemas) (n : ℕ) (s : Step) → schemas s.name ≡ None → check_step_body schemas n s ≡ check_body schemas n s.body.cores
step_new schemas n s h = ap (λ (o : Option (List Column)). and_then (in_select n (unless (is_some o) Twice s)) (λ s. check_body schemas n s.body.cores)) h

pub step_twice : (schemas : Schemas) (n : ℕ) (s : Step) (columns : List Column) → schemas s.name ≡ Some columns → check_step_body schemas n s ≡ Err (record { kind = Twice; select = n })
step_twice schemas n s columns h = ap (λ (o : Option (List Column)). and_then (in_select n (unless (is_some o) Twice s)) (λ s. check_body schemas n s.body.cores)) h

pub ruleset step_steps = (step_new, step_twice)
