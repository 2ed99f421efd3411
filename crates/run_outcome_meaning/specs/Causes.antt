-- Which status comes when.
use Rattle.std.specs.Prelude.{◌≡◌, ℕ, ◌<◌, List, ◌++◌, take, Option, Some, IfSome, Result, Ok, Err, MatchResult, ◌⊎◌}
use Rattle.store_io.specs.Causes.{Rose}
use Rattle.run_meaning.specs.declared.status.Status.{Status}
use Rattle.run_meaning.specs.declared.status.Status.TheVariants.{Done, NoMemory}
use Rattle.run_meaning.specs.Codes.{line_of}
use Rattle.run_files_meaning.specs.Intake.{Contents, IsReached, IsTold}
use Rattle.run_files_meaning.specs.Refusal.{Ending, whole, broken, unread, no_memory, refused, ending_of}
use Rattle.run_files_meaning.specs.Job.{Job, AsksFor}

-- faults of names, before a call and after it, and those of the output
pub record Faults : Type 0 where
  pub before : List ℕ → ℕ
  pub after : List ℕ → ℕ
  pub out_before : ℕ
  pub out_after : ℕ

-- where the output tells its bytes: a text that fits was appended, and nothing else
abbrev pub Appends : (List ℕ → Type 0) → Option (List ℕ) → Option (List ℕ) → Type 0
Appends Fits old new = IfSome old (λ bytes. (text : List ℕ) × Fits text × (new ≡ Some (bytes ++ text)))

-- a front of it was
abbrev pub AppendsFront : (List ℕ → Type 0) → Option (List ℕ) → Option (List ℕ) → Type 0
AppendsFront Fits old new = IfSome old (λ bytes. (text : List ℕ) × Fits text × ((count : ℕ) × (new ≡ Some (bytes ++ take count text))))

-- a file that the words name could not be read, and every file before it was accepted
pub record CouldNotRead (name : List ℕ) (job : Job) (contents : Contents) (faults : Faults) : Type 0 where
  pub rose : faults.before name < faults.after name
  pub reached : IsReached name job.intake contents

abbrev pub SaysBy : Ending → Status → (job : Job) → Contents → Faults → (old new : Option (List ℕ)) → Type 0
SaysBy whole status job contents faults old new = (work : job.Work) × AsksFor job contents (Ok work) × Appends (job.Fits work) old new
SaysBy broken status job contents faults old new = ((work : job.Work) × AsksFor job contents (Ok work) × AppendsFront (job.Fits work) old new) × Rose faults.out_before faults.out_after
SaysBy (unread name) status job contents faults old new = CouldNotRead name job contents faults × (new ≡ old)
SaysBy no_memory status job contents faults old new = new ≡ old
SaysBy refused status job contents faults old new = AsksFor job contents (Err status) × (new ≡ old)

-- what a status says of the job, the files and the output, whose bytes were `old` and are `new`
abbrev pub Says : Status → Job → Contents → Faults → (old new : Option (List ℕ)) → Type 0
Says status job contents faults old new = SaysBy (ending_of status) status job contents faults old new

-- no read of a file that is reached failed
abbrev pub NoReadFailed : Job → Contents → Faults → Type 0
NoReadFailed job contents faults = (name : List ℕ) → IsReached name job.intake contents → faults.after name ≡ faults.before name

-- the status that is owed, unless memory ran out
abbrev pub Owed : {W : Type 0} → Status → Faults → Result W Status → Type 0
Owed status faults o = MatchResult o
    (λ work. (Rose faults.out_before faults.out_after → ⊥) → (status ≡ Done) ⊎ (status ≡ NoMemory))
    (λ owed. (status ≡ owed) ⊎ (status ≡ NoMemory))

-- where each file that is reached is told, and nothing failed, the status is the one that is owed, unless memory ran out
abbrev pub Completes : Status → Job → Contents → Faults → Type 0
Completes status job contents faults =
    IsTold job.intake contents → NoReadFailed job contents faults → (o : Result job.Work Status) → AsksFor job contents o → Owed status faults o

-- the status's line was put on the error output, or a front of it where a put failed
abbrev pub Told : Status → Option (List ℕ) → Option (List ℕ) → ℕ → ℕ → Type 0
Told status old new before after = IfSome old (λ bytes. (new ≡ Some (bytes ++ line_of status))
    ⊎ (Rose before after × ((count : ℕ) × (new ≡ Some (bytes ++ take count (line_of status))))))
