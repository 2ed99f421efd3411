-- What reading the files of an intake came to.
use Rattle.std.specs.Prelude.{ℕ, ◌<◌, List, Result, Ok, Err}
use Rattle.run_meaning.specs.declared.status.Status.{Status}
use Rattle.run_files_meaning.specs.Intake.{Contents, Intake, gives, refuses, Leads, IsReached}
use Rattle.run_files_meaning.specs.Refusal.{Ending, unread, no_memory, refused, ending_of}

abbrev pub StopsBy : {X : Type 0} → Ending → Status → Intake X → Contents → (before after : List ℕ → ℕ) → Type 0
StopsBy no_memory status intake contents before after = Unit {0}
StopsBy (unread name) status intake contents before after = (before name < after name) × IsReached name intake contents
StopsBy refused status intake contents before after = Leads contents intake (refuses status)
StopsBy _ status intake contents before after = ⊥

-- why nothing was given: memory ran out, a read of a file that is reached failed, by the counts of failed reads of each name before
-- and after, or the files lead to this status
abbrev pub Stops : {X : Type 0} → Status → Intake X → Contents → (before after : List ℕ → ℕ) → Type 0
Stops status intake contents before after = StopsBy (ending_of status) status intake contents before after

-- the files lead to what was taken, or why nothing was
abbrev pub Takes : {X Y : Type 0} → (X → Y) → Result X Status → Intake Y → Contents → (before after : List ℕ → ℕ) → Type 0
Takes view (Ok x) intake contents before after = Leads contents intake (gives (view x))
Takes view (Err status) intake contents before after = Stops status intake contents before after
