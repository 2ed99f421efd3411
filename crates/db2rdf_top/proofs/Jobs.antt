-- What a job makes, from what its files give and what their work comes to.
use Rattle.std.proofs.Common.{◌≡◌, ℕ, ◌<◌, ◌≤◌, ◌+◌, ◌^◌, List, refl, sym, subst, arith}
use Rattle.std.specs.Prelude.{Option, Some, None, Result, Ok, Err, IfOk, IfErr, IsErrAnd, OnOk, length}
use Rattle.line_change_meaning.specs.declared.change.Change.{Change}
use Rattle.colouring_file_meaning.specs.ColourLines.{ColourOf}
use Rattle.layout_placed_meaning.specs.Chosen.{IsCounted}
use Rattle.run_meaning.specs.declared.status.Status.{Status}
use Rattle.run_meaning.specs.declared.status.Status.TheVariants.{Usage, NotYet}
use Rattle.run_meaning.specs.declared.command.Options.{Options}
use Rattle.run_meaning.specs.declared.command.Command.{Command}
use Rattle.run_meaning.specs.declared.command.Command.TheVariants.{Query, Show, Plan, Stats, Exec, Drill}
use Rattle.run_meaning.specs.declared.which.Which.TheVariants as which
use Rattle.run_meaning.specs.Limits.{most_file}
use Rattle.run_files_meaning.specs.Intake.{Contents, Intake, gives, refuses, behind, Leads, here}
use Rattle.run_files_meaning.specs.Files.{query_files, query_read, text_read, colours_read, data_read, judged_work}
use Rattle.run_files_meaning.specs.Refusal.{Ending, whole, broken, unread, no_memory, refused, ending_of, RefusedFor, RefusedAs}
use Rattle.run_files_meaning.specs.Taken.{StopsBy, Stops}
use Rattle.run_files_meaning.specs.Job.{Job, no_job, AsksFor}
use Rattle.run_files_meaning.proofs.Leads.{leads_on, leads_behind}
use Rattle.run_files_meaning.proofs.Takes.{refused_map, leads_same, stops_later, stops_behind}
use Rattle.run_query_meaning.specs.Answering.{Answering, AnswerAsks, FitsAnswer, query_job}
use Rattle.run_show_meaning.specs.Showing.{Showing, ShowAsks, IsShown, show_job}
use Rattle.run_stats_meaning.specs.Counting.{Counting, counting, stats_job}
use Rattle.run_exec_meaning.specs.Running.{Running, ScriptAsks, ScriptText, exec_job}
use Rattle.run_outcome_meaning.specs.Jobs.{job_of, job_asked}
use Rattle.db2rdf_top.specs.Endings.{LacksBy, Lacks, FitsJob, Makes}

-- the files stopped the job
lacks : (status : Status) (job : Job) (contents : Contents) (before after : List ℕ → ℕ) → Stops status job.intake contents before after → Lacks status job contents before after
lacks status job contents before after s = by (ending_of status) s
  where
    asked : Leads contents job.intake (refuses status) → AsksFor job contents (Err status)
    asked leads = record { given = Err status; leads = leads; asks = refl }

    by : (end : Ending) → StopsBy end status job.intake contents before after → LacksBy end status job contents before after
    by whole s = absurd s
    by broken s = absurd s
    by (unread name) s = s
    by no_memory s = tt
    by refused s = asked s

pub job_stops : {X : Type 0} (items : X → List ℕ) (made : Result X Status) (status : Status) (job : Job) (contents : Contents) (before after : List ℕ → ℕ)
    → IsErrAnd made (λ s. s ≡ status) → Stops status job.intake contents before after → Makes items made job contents before after
job_stops items (Ok x) status job contents before after e s = absurd e
job_stops items (Err other) status job contents before after e s =
    subst (λ (t : Status). Lacks t job contents before after) (sym e) (lacks status job contents before after s)

-- what was made of what the files give
pub job_makes : {X : Type 0} (items : X → List ℕ) (made : Result X Status) (job : Job) (contents : Contents) (before after : List ℕ → ℕ) (input : job.Input)
    → Leads contents job.intake (gives input) → IfOk made (λ x. (work : job.Work) × job.Asks input (Ok work) × job.Fits work (items x))
    → IfErr made (λ status. RefusedAs status (λ s. job.Asks input (Err s))) → Makes items made job contents before after
job_makes items (Ok x) job contents before after input leads ok err =
    record { work = ok.0; asked = record { given = Ok input; leads = leads; asks = ok.1 }; fits = ok.2 }
job_makes items (Err status) job contents before after input leads ok err = by (ending_of status) err
  where
    asked : job.Asks input (Err status) → AsksFor job contents (Err status)
    asked a = record { given = Ok input; leads = leads; asks = a }

    by : (end : Ending) → RefusedFor end (job.Asks input (Err status)) → LacksBy end status job contents before after
    by whole r = absurd r
    by broken r = absurd r
    by (unread name) r = absurd r
    by no_memory r = tt
    by refused r = asked r

-- ---- words that ask for a status by themselves

asked_at_once : (status : Status) (contents : Contents) → AsksFor (no_job status) contents (Err status)
asked_at_once status contents = record { given = Err status; leads = here; asks = refl }

pub no_command : (command : Option Command) (contents : Contents) → command ≡ None → AsksFor (job_asked command) contents (Err Usage)
no_command None contents e = asked_at_once Usage contents
no_command (Some command) contents e = cc

-- the command isn't built yet
abbrev pub IsUnbuilt : Command → Type 0
IsUnbuilt (Plan options names name) = Unit {0}
IsUnbuilt (Drill options count seed) = Unit {0}
IsUnbuilt (Query options names name) = ⊥
IsUnbuilt (Show options names name) = ⊥
IsUnbuilt (Stats options names) = ⊥
IsUnbuilt (Exec pieces name) = ⊥

pub unbuilt : (command : Command) (contents : Contents) → IsUnbuilt command → AsksFor (job_of command) contents (Err NotYet)
unbuilt (Plan options names name) contents is = asked_at_once NotYet contents
unbuilt (Drill options count seed) contents is = asked_at_once NotYet contents
unbuilt (Query options names name) contents is = absurd is
unbuilt (Show options names name) contents is = absurd is
unbuilt (Stats options names) contents is = absurd is
unbuilt (Exec pieces name) contents is = absurd is

-- ---- each command

pub answer_makes : {X : Type 0} (items : X → List ℕ) (made : Result X Status) (options : Options) (names : List (List ℕ)) (name : List ℕ) (contents : Contents) (before after : List ℕ → ℕ)
    (colours : List ColourOf) (changes : List Change) (text given : List ℕ) → given ≡ text → Leads contents (query_read options names name) (gives (query_files colours changes text))
    → IfOk made (λ x. (work : Answering) × AnswerAsks changes given (Ok work) × FitsAnswer work (items x)) → IfErr made (λ status. RefusedAs status (λ s. AnswerAsks changes given (Err s)))
    → Makes items made (query_job options names name) contents before after
answer_makes items made options names name contents before after colours changes text given same leads ok err =
    job_makes items made (query_job options names name) contents before after (query_files colours changes text) leads
    (subst (λ (t : List ℕ). IfOk made (λ x. (work : Answering) × AnswerAsks changes t (Ok work) × FitsAnswer work (items x))) same ok)
    (subst (λ (t : List ℕ). IfErr made (λ status. RefusedAs status (λ s. AnswerAsks changes t (Err s)))) same err)

pub show_makes : {X : Type 0} (items : X → List ℕ) (made : Result X Status) (options : Options) (names : List (List ℕ)) (name : List ℕ) (contents : Contents) (before after : List ℕ → ℕ)
    (colours : List ColourOf) (changes : List Change) (text given : List ℕ) → given ≡ text → Leads contents (query_read options names name) (gives (query_files colours changes text))
    → IfOk made (λ x. (work : Showing) × ShowAsks colours changes given (Ok work) × IsShown options work (items x)) → IfErr made (λ status. RefusedAs status (λ s. ShowAsks colours changes given (Err s)))
    → Makes items made (show_job options names name) contents before after
show_makes items made options names name contents before after colours changes text given same leads ok err =
    job_makes items made (show_job options names name) contents before after (query_files colours changes text) leads
    (subst (λ (t : List ℕ). IfOk made (λ x. (work : Showing) × ShowAsks colours changes t (Ok work) × IsShown options work (items x))) same ok)
    (subst (λ (t : List ℕ). IfErr made (λ status. RefusedAs status (λ s. ShowAsks colours changes t (Err s)))) same err)

pub script_makes : {X : Type 0} (items : X → List ℕ) (made : Result X Status) (name : List ℕ) (contents : Contents) (before after : List ℕ → ℕ)
    (text given : List ℕ) → given ≡ text → Leads contents (text_read most_file which.File name) (gives text)
    → IfOk made (λ x. (work : Running) × ScriptAsks given (Ok work) × ScriptText work (items x)) → IfErr made (λ status. RefusedAs status (λ s. ScriptAsks given (Err s)))
    → Makes items made (exec_job name) contents before after
script_makes items made name contents before after text given same leads ok err =
    job_makes items made (exec_job name) contents before after text leads
    (subst (λ (t : List ℕ). IfOk made (λ x. (work : Running) × ScriptAsks t (Ok work) × ScriptText work (items x))) same ok)
    (subst (λ (t : List ℕ). IfErr made (λ status. RefusedAs status (λ s. ScriptAsks t (Err s)))) same err)

abbrev both : Options → List (List ℕ) → List ColourOf → Intake Counting
both options names colours = behind (data_read names) (λ changes. gives (counting colours changes))

-- the colouring file stopped the counting
pub colours_stop : {X : Type 0} (items : X → List ℕ) (made : Result X Status) (status : Status) (options : Options) (names : List (List ℕ)) (contents : Contents) (before after : List ℕ → ℕ)
    → IsErrAnd made (λ s. s ≡ status) → Stops status (colours_read options) contents before after → Makes items made (stats_job options names) contents before after
colours_stop items made status options names contents before after e s =
    job_stops items made status (stats_job options names) contents before after e (stops_behind status (colours_read options) (both options names) contents before after s)

-- a data file did
pub data_stop : {X : Type 0} (items : X → List ℕ) (made : Result X Status) (status : Status) (options : Options) (names : List (List ℕ)) (contents other : Contents) (before middle after : List ℕ → ℕ)
    (colours : List ColourOf) → IsErrAnd made (λ s. s ≡ status) → Leads contents (colours_read options) (gives colours)
    → ((name : List ℕ) → other name ≡ contents name) → ((name : List ℕ) → before name ≤ middle name)
    → Stops status (data_read names) other middle after → Makes items made (stats_job options names) contents before after
data_stop items made status options names contents other before middle after colours e leads same le s =
    job_stops items made status (stats_job options names) contents before after e
    (stops_later status (behind (colours_read options) (both options names)) (both options names colours) contents other before middle after (leads_behind (both options names) leads) same le
    (stops_behind status (data_read names) (λ changes. gives (counting colours changes)) other middle after s))

-- the counts of the changes
pub counts_make : {X : Type 0} (items : X → List ℕ) (made : Result X Status) (options : Options) (names : List (List ℕ)) (contents other : Contents) (before after : List ℕ → ℕ)
    (colours : List ColourOf) (changes : List Change) → Leads contents (colours_read options) (gives colours)
    → ((name : List ℕ) → other name ≡ contents name) → Leads other (data_read names) (gives changes)
    → IfOk made (λ x. IsCounted options colours changes (items x)) → OnOk made (judged_work changes (counting colours changes) ≡ Ok (counting colours changes))
    → IfErr made (λ status. RefusedAs status (λ s. judged_work changes (counting colours changes) ≡ Err s))
    → Makes items made (stats_job options names) contents before after
counts_make {X} items made options names contents other before after colours changes first same second fits judged err =
    job_makes items made (stats_job options names) contents before after (counting colours changes)
    (leads_on (leads_behind (both options names) first) (leads_behind (λ changes. gives (counting colours changes)) (leads_same same second)))
    (done made fits judged) (owed made err)
  where
    done : (made : Result X Status) → IfOk made (λ x. IsCounted options colours changes (items x)) → OnOk made (judged_work changes (counting colours changes) ≡ Ok (counting colours changes))
        → IfOk made (λ x. (work : Counting) × (Ok work ≡ judged_work changes (counting colours changes)) × IsCounted options work.colours work.changes (items x))
    done (Err status) fits judged = tt
    done (Ok x) fits judged = (counting colours changes, sym judged, fits)

    owed : (made : Result X Status) → IfErr made (λ status. RefusedAs status (λ s. judged_work changes (counting colours changes) ≡ Err s))
        → IfErr made (λ status. RefusedAs status (λ s. Err s ≡ judged_work changes (counting colours changes)))
    owed (Ok x) err = tt
    owed (Err status) err = refused_map status (λ s. judged_work changes (counting colours changes) ≡ Err s) (λ s. Err s ≡ judged_work changes (counting colours changes)) (λ s e. sym e) err
