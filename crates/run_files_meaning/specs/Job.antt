-- What a command reads, what that asks for, and the text that fits.
use Rattle.std.specs.Prelude.{◌≡◌, ℕ, List, Result, Ok, Err}
use Rattle.run_meaning.specs.declared.status.Status.{Status}
use Rattle.run_files_meaning.specs.Intake.{Contents, Intake, refuses, settled, Leads}

pub record Job : Type 1 where
  -- what its files give
  pub Input : Type 0
  -- what is to be done
  pub Work : Type 0
  pub intake : Intake Input
  -- what the files ask for: work, or the first status that applies; one thing at most
  pub Asks : Input → Result Work Status → Type 0
  -- the texts of the work
  pub Fits : Work → List ℕ → Type 0

-- nothing is read, and this status is asked for
abbrev pub no_job : Status → Job
no_job status = record { Input = ⊥; Work = ⊥; intake = refuses status; Asks = λ input o. ⊥; Fits = λ work text. ⊥ }

-- what is asked for by what the files give, or by the refusal of one of them
abbrev pub AsksBehind : (job : Job) → Result job.Input Status → Result job.Work Status → Type 0
AsksBehind job (Ok input) o = job.Asks input o
AsksBehind job (Err status) o = o ≡ Err status

-- with these contents the job asks for this: work, or the first status that applies in the order of its files
pub record AsksFor (job : Job) (contents : Contents) (o : Result job.Work Status) : Type 0 where
  pub given : Result job.Input Status
  pub leads : Leads contents job.intake (settled given)
  pub asks : AsksBehind job given o
