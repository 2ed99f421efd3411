-- How the parts of a run end, for the functions inside the program.
use Rattle.std.specs.Prelude.{◌≡◌, ℕ, ◌<◌, List, ◌++◌, take, Option, Some, IfSome, Result, Ok, Err}
use Rattle.store_io.specs.Causes.{Rose}
use Rattle.run_meaning.specs.declared.status.Status.{Status}
use Rattle.run_meaning.specs.declared.status.Status.TheVariants.{Done, Usage, WriteFault, NotYet, NoMemory}
use Rattle.run_files_meaning.specs.Intake.{Contents, IsReached}
use Rattle.run_files_meaning.specs.Refusal.{Ending, whole, broken, unread, no_memory, refused, ending_of}
use Rattle.run_files_meaning.specs.Job.{Job, AsksFor}

abbrev pub LacksBy : Ending → Status → Job → Contents → (before after : List ℕ → ℕ) → Type 0
LacksBy no_memory status job contents before after = Unit {0}
LacksBy (unread name) status job contents before after = (before name < after name) × IsReached name job.intake contents
LacksBy refused status job contents before after = AsksFor job contents (Err status)
LacksBy whole status job contents before after = ⊥
LacksBy broken status job contents before after = ⊥

-- why a job has no text: it asks for this status, a read of a file failed, or memory ran out
abbrev pub Lacks : Status → Job → Contents → (before after : List ℕ → ℕ) → Type 0
Lacks status job contents before after = LacksBy (ending_of status) status job contents before after

-- the text fits what the job asks for
pub record FitsJob (text : List ℕ) (job : Job) (contents : Contents) : Type 0 where
  pub work : job.Work
  pub asked : AsksFor job contents (Ok work)
  pub fits : job.Fits work text

-- a text that fits, or why there is none
abbrev pub Makes : {X : Type 0} → (X → List ℕ) → Result X Status → Job → Contents → (before after : List ℕ → ℕ) → Type 0
Makes items (Ok x) job contents before after = FitsJob (items x) job contents
Makes items (Err status) job contents before after = Lacks status job contents before after

abbrev pub PutsBy : Ending → List ℕ → (old new : Option (List ℕ)) → (before after : ℕ) → Type 0
PutsBy whole text old new before after = IfSome old (λ bytes. new ≡ Some (bytes ++ text))
PutsBy broken text old new before after = IfSome old (λ bytes. (count : ℕ) × (new ≡ Some (bytes ++ take count text))) × Rose before after
PutsBy (unread name) text old new before after = ⊥
PutsBy no_memory text old new before after = ⊥
PutsBy refused text old new before after = ⊥

-- what the putting of a text says
abbrev pub Puts : Status → List ℕ → (old new : Option (List ℕ)) → (before after : ℕ) → Type 0
Puts status text old new before after = PutsBy (ending_of status) text old new before after

-- a status whose line names or counts something
abbrev pub NamesSomething : Status → Type 0
NamesSomething Done = ⊥
NamesSomething Usage = ⊥
NamesSomething WriteFault = ⊥
NamesSomething NotYet = ⊥
NamesSomething NoMemory = ⊥
NamesSomething _ = Unit {0}
