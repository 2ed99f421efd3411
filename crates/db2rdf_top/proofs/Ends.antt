-- How a run ends, from how its parts end.
use Rattle.std.proofs.Common.{◌≡◌, ℕ, ◌<◌, List, ◌++◌, take, refl, sym, subst, inl, inr, ◌⊎◌, arith}
use Rattle.std.specs.Prelude.{Option, Some, None, Result, Ok, Err, IfOk, IfErr, IfSome, MatchResult}
use Rattle.store_io.specs.Causes.{Rose}
use Rattle.run_meaning.specs.declared.status.Status.{Status}
use Rattle.run_meaning.specs.declared.status.Status.TheVariants.{Done, Usage, BadData, BadQuery, Limit, ReadFault, WriteFault, BadTables, BadSql, BadColouring, NotYet, NoMemory}
use Rattle.run_meaning.specs.declared.command.Command.{Command}
use Rattle.run_files_meaning.specs.Intake.{Contents}
use Rattle.run_files_meaning.specs.Refusal.{Ending, whole, broken, unread, no_memory, refused, ending_of}
use Rattle.run_files_meaning.specs.Job.{Job, AsksFor}
use Rattle.run_outcome_meaning.specs.Causes.{Faults, Appends, AppendsFront, SaysBy, Says, NoReadFailed, Owed, Completes}
use Rattle.run_outcome_laws.specs.OneOutcome.{AsksOnce}
use Rattle.db2rdf_top.specs.Endings.{LacksBy, Lacks, FitsJob, Makes, PutsBy, Puts, NamesSomething}

-- ---- what a text, or the lack of one, says once it is put

appends : (text : List ℕ) (old new : Option (List ℕ)) (Fits : List ℕ → Type 0) → Fits text → IfSome old (λ bytes. new ≡ Some (bytes ++ text)) → Appends Fits old new
appends text None new Fits is h = tt
appends text (Some bytes) new Fits is h = (text, is, h)

appends_front : (text : List ℕ) (old new : Option (List ℕ)) (Fits : List ℕ → Type 0) → Fits text → IfSome old (λ bytes. (count : ℕ) × (new ≡ Some (bytes ++ take count text))) → AppendsFront Fits old new
appends_front text None new Fits is h = tt
appends_front text (Some bytes) new Fits is h = (text, is, h)

-- the text was put, or a front of it
text_says : (status : Status) (text : List ℕ) (job : Job) (contents : Contents) (faults : Faults) (old new : Option (List ℕ))
    → FitsJob text job contents → Puts status text old new faults.out_before faults.out_after → Says status job contents faults old new
text_says status text job contents faults old new f p = by (ending_of status) p
  where
    by : (end : Ending) → PutsBy end text old new faults.out_before faults.out_after → SaysBy end status job contents faults old new
    by whole p = (f.work, f.asked, appends text old new (job.Fits f.work) f.fits p)
    by broken p = ((f.work, f.asked, appends_front text old new (job.Fits f.work) f.fits p.0), p.1)
    by (unread name) p = absurd p
    by no_memory p = absurd p
    by refused p = absurd p

-- there was no text
lack_says : (status : Status) (job : Job) (contents : Contents) (faults : Faults) (old new : Option (List ℕ))
    → Lacks status job contents faults.before faults.after → new ≡ old → Says status job contents faults old new
lack_says status job contents faults old new l e = by (ending_of status) l
  where
    by : (end : Ending) → LacksBy end status job contents faults.before faults.after → SaysBy end status job contents faults old new
    by whole l = absurd l
    by broken l = absurd l
    by (unread name) l = (record { rose = l.0; reached = l.1 }, e)
    by no_memory l = e
    by refused l = (l, e)

-- nothing was put under a status whose line names something
abbrev Unput : Ending → Type 0
Unput whole = ⊥
Unput broken = ⊥
Unput (unread name) = Unit {0}
Unput no_memory = Unit {0}
Unput refused = Unit {0}

unput : (status : Status) → NamesSomething status → Unput (ending_of status)
unput Done n = n
unput Usage n = tt
unput (BadData file line) n = tt
unput (BadQuery why) n = tt
unput (Limit which) n = tt
unput (ReadFault name) n = tt
unput WriteFault n = n
unput (BadTables line) n = tt
unput (BadSql why) n = tt
unput (BadColouring line) n = tt
unput NotYet n = tt
unput NoMemory n = tt

same_output : (end : Ending) (status : Status) (job : Job) (contents : Contents) (faults : Faults) (old new : Option (List ℕ)) → Unput end → SaysBy end status job contents faults old new → new ≡ old
same_output whole status job contents faults old new n s = absurd n
same_output broken status job contents faults old new n s = absurd n
same_output (unread name) status job contents faults old new n s = s.1
same_output no_memory status job contents faults old new n s = s
same_output refused status job contents faults old new n s = s.1

-- a line that is made may want memory
ends : (status result : Status) (job : Job) (contents : Contents) (faults : Faults) (old new : Option (List ℕ))
    → Says status job contents faults old new → (result ≡ status) ⊎ (NamesSomething status × (result ≡ NoMemory)) → Says result job contents faults old new
ends status result job contents faults old new s (inl e) = subst (λ (t : Status). Says t job contents faults old new) (sym e) s
ends status result job contents faults old new s (inr e) =
    let same : new ≡ old = same_output (ending_of status) status job contents faults old new (unput status e.0) s in
    subst (λ (t : Status). Says t job contents faults old new) (sym e.1) same

-- what a run says, by the text that was made or why there is none, and by what was put
pub run_says : {X : Type 0} (items : X → List ℕ) (made : Result X Status) (status result : Status) (job : Job) (contents : Contents) (faults : Faults) (old new : Option (List ℕ))
    → Makes items made job contents faults.before faults.after
    → IfOk made (λ x. Puts status (items x) old new faults.out_before faults.out_after) → IfErr made (λ s. (status ≡ s) × (new ≡ old))
    → (result ≡ status) ⊎ (NamesSomething status × (result ≡ NoMemory)) → Says result job contents faults old new
run_says items (Ok x) status result job contents faults old new m p n e =
    ends status result job contents faults old new (text_says status (items x) job contents faults old new m p) e
run_says items (Err s) status result job contents faults old new m p n e =
    let says : Says s job contents faults old new = lack_says s job contents faults old new m n.1 in
    ends status result job contents faults old new (subst (λ (t : Status). Says t job contents faults old new) (sym n.0) says) e

-- ---- each status that is not owed has its cause

abbrev kept : {W : Type 0} → W → Result W Status
kept work = Ok work

abbrev lost : {W : Type 0} → Status → Result W Status
lost status = Err status

apart : {W : Type 0} (work : W) (status : Status) → kept work ≡ lost status → ⊥
apart work status e = cc

same_status : {W : Type 0} (s t : Status) → lost {W = W} s ≡ lost {W = W} t → s ≡ t
same_status s t e = cc

done_owed : {W : Type 0} (status : Status) (faults : Faults) (work : W) (o : Result W Status) → status ≡ Done → kept work ≡ o → Owed status faults o
done_owed status faults work (Ok w) e s = λ _. inl e
done_owed status faults work (Err t) e s = absurd (apart work t s)

broken_owed : {W : Type 0} (status : Status) (faults : Faults) (work : W) (o : Result W Status) → Rose faults.out_before faults.out_after → kept work ≡ o → Owed status faults o
broken_owed status faults work (Ok w) r s = λ never. absurd (never r)
broken_owed status faults work (Err t) r s = absurd (apart work t s)

memory_owed : {W : Type 0} (status : Status) (faults : Faults) (o : Result W Status) → status ≡ NoMemory → Owed status faults o
memory_owed status faults (Ok w) e = λ _. inr e
memory_owed status faults (Err t) e = inr e

refused_owed : {W : Type 0} (status : Status) (faults : Faults) (o : Result W Status) → lost status ≡ o → Owed status faults o
refused_owed status faults (Ok w) s = absurd (apart w status (sym s))
refused_owed {W = W} status faults (Err t) s = inl (same_status {W = W} status t s)

-- the status of an ending that is of one status
abbrev Known : Ending → Status → Type 0
Known whole status = status ≡ Done
Known no_memory status = status ≡ NoMemory
Known _ status = Unit {0}

known : (status : Status) → Known (ending_of status) status
known Done = refl
known Usage = tt
known (BadData file line) = tt
known (BadQuery why) = tt
known (Limit which) = tt
known (ReadFault name) = tt
known WriteFault = tt
known (BadTables line) = tt
known (BadSql why) = tt
known (BadColouring line) = tt
known NotYet = tt
known NoMemory = refl

unrisen : (before after : ℕ) → before < after → after ≡ before → ⊥
unrisen before after lt e = omega arith

pub completes : (status : Status) (job : Job) (contents : Contents) (faults : Faults) (old new : Option (List ℕ)) → AsksOnce job → Says status job contents faults old new → Completes status job contents faults
completes status job contents faults old new once s told none o asked = by (ending_of status) (known status) s
  where
    by : (end : Ending) → Known end status → SaysBy end status job contents faults old new → Owed status faults o
    by whole k s = done_owed status faults s.0 o k (once contents told (Ok s.0) o s.1 asked)
    by broken k s = broken_owed status faults s.0.0 o s.1 (once contents told (Ok s.0.0) o s.0.1 asked)
    by (unread name) k s = absurd (unrisen (faults.before name) (faults.after name) s.0.rose (none name s.0.reached))
    by no_memory k s = memory_owed status faults o k
    by refused k s = refused_owed status faults o (once contents told (Err status) o s.0 asked)
