-- Where its files are told, a job asks for exactly one thing.
use Rattle.std.specs.Prelude.{◌≡◌, ℕ, List, drop, Option, Some, None, Result, Ok, Err}
use Rattle.std.proofs.Common.{refl, sym, ap, subst, ◌∙◌, inl, inr, ◌⊎◌}
use Rattle.line_change_meaning.specs.declared.change.Change.{Change}
use Rattle.query_meaning.specs.declared.query.Query.{Query as AlgebraQuery}
use Rattle.sparql_query_meaning.specs.declared.refusal.QueryRefusal.{QueryRefusal}
use Rattle.sparql_query_meaning.specs.Queries.{IsTheQuery, QueryRefused}
use Rattle.sparql_refusals.specs.Laws.{QueriesAreNotRefused, RefusalsAreUnique}
use Rattle.sparql_refusal_laws.specs.EachText.{NoTextIsNeither}
use Rattle.table_meaning.specs.Tables.{NamedTable}
use Rattle.table_text_meaning.specs.TableText.{TablesRead, IsFirstBadLine}
use Rattle.table_text.specs.Laws.{OneReading, NeverBoth, OneBadLine, ReadOrBad}
use Rattle.sql_meaning.specs.Texts.{SpellsOnly, HasDeepToken, BreaksAt}
use Rattle.sql_meaning.specs.declared.script.Script.{Script}
use Rattle.sql_text_cut_laws.specs.Outcomes.{spelled_texts_dont_break}
use Rattle.sql_text_refusal_laws.specs.EachText.{NoSqlTextIsNeither}
use Rattle.run_meaning.specs.declared.fault.SqlFault.TheVariants as fault
use Rattle.run_meaning.specs.declared.status.Status.{Status}
use Rattle.run_meaning.specs.declared.status.Status.TheVariants.{Usage, BadTables, BadSql, NotYet}
use Rattle.run_meaning.specs.declared.command.Command.{Command}
use Rattle.run_meaning.specs.declared.command.Command.TheVariants.{Query, Show, Plan, Stats, Exec, Drill}
use Rattle.run_files_meaning.specs.Intake.{Contents, settled, Leads, IsTold}
use Rattle.run_files_meaning.specs.Files.{judged_work}
use Rattle.run_files_meaning.specs.Job.{Job, no_job, AsksBehind, AsksFor}
use Rattle.run_files_meaning.proofs.Leads.{one_end, some_end}
use Rattle.run_query_meaning.specs.QueryFile.{status_of, QueryAsks, is_query, is_refused, AsksWork, has_query, has_none}
use Rattle.run_query_meaning.specs.Answering.{answering, query_job}
use Rattle.run_show_meaning.specs.Showing.{showing, show_job}
use Rattle.run_stats_meaning.specs.Counting.{Counting, stats_job}
use Rattle.run_exec_meaning.specs.Running.{Running, judged_script, SqlAsks, reads_script, is_deep, breaks, ScriptAsks, has_tables, is_bad, exec_job}
use Rattle.run_outcome_meaning.specs.Jobs.{job_of, job_asked}
use Rattle.run_outcome_laws.specs.BreakPlaces.{breaks_at_one_place, deep_texts_dont_break}

-- a job asks for one thing at most, where each of its files that is reached is told
abbrev pub AsksOnce : Job → Type 0
AsksOnce job = (contents : Contents) → IsTold job.intake contents → (o p : Result job.Work Status) → AsksFor job contents o → AsksFor job contents p → o ≡ p

-- and never for nothing
abbrev pub AsksSomething : Job → Type 0
AsksSomething job = (contents : Contents) → IsTold job.intake contents → ((o : Result job.Work Status) → AsksFor job contents o → ⊥) → ⊥

-- so does the job of any words
abbrev pub JobsAskOnce : Type 0
JobsAskOnce = (command : Option Command) → AsksOnce (job_asked command)

abbrev pub JobsAskSomething : Type 0
JobsAskSomething = (command : Option Command) → AsksSomething (job_asked command)

-- ---- any job

asks_once : (job : Job) → ((input : job.Input) (o p : Result job.Work Status) → job.Asks input o → job.Asks input p → o ≡ p) → AsksOnce job
asks_once job once contents told o p a b =
    let same : a.given ≡ b.given = one_end contents job.intake told a.given b.given a.leads b.leads in
    by a.given a.asks (subst (λ (r : Result job.Input Status). AsksBehind job r p) (sym same) b.asks)
  where
    by : (r : Result job.Input Status) → AsksBehind job r o → AsksBehind job r p → o ≡ p
    by (Ok input) x y = once input o p x y
    by (Err status) x y = x ∙ sym y

asks_something : (job : Job) → ((input : job.Input) → ((o : Result job.Work Status) → job.Asks input o → ⊥) → ⊥) → AsksSomething job
asks_something job some contents told none = let end = some_end contents job.intake told in by end.0 end.1
  where
    by : (r : Result job.Input Status) → Leads contents job.intake (settled r) → ⊥
    by (Ok input) leads = some input (λ o a. none o (record { given = Ok input; leads = leads; asks = a }))
    by (Err status) leads = none (Err status) (record { given = Err status; leads = leads; asks = refl })

-- ---- the text of a query

abbrev Read : Type 0
Read = Result AlgebraQuery Status

query_asks_once : QueriesAreNotRefused → RefusalsAreUnique → (text : List ℕ) (o p : Read) → QueryAsks text o → QueryAsks text p → o ≡ p
query_asks_once never one text o p (is_query q a) (is_query r b) = ap Ok (b.only q a.is)
query_asks_once never one text o p (is_query q a) (is_refused r b) = absurd (never text q r a.is b)
query_asks_once never one text o p (is_refused r a) (is_query q b) = absurd (never text q r b.is a)
query_asks_once never one text o p (is_refused r a) (is_refused s b) = ap (λ (x : QueryRefusal). let read : Read = Err (status_of x) in read) (one text r s a b)

abbrev read_as : AlgebraQuery → Read
read_as q = Ok q

abbrev not_read : Status → Read
not_read s = Err s

same_query : (q r : AlgebraQuery) → read_as q ≡ read_as r → q ≡ r
same_query q r e = cc

same_status : (s t : Status) → not_read s ≡ not_read t → s ≡ t
same_status s t e = cc

never_both : (q : AlgebraQuery) (s : Status) → read_as q ≡ not_read s → ⊥
never_both q s e = cc

work_asks_once : {W : Type 0} → QueriesAreNotRefused → RefusalsAreUnique → (changes : List Change) (text : List ℕ) (make : AlgebraQuery → W) (o p : Result W Status) → AsksWork changes text make o → AsksWork changes text make p → o ≡ p
work_asks_once never one changes text make o p (has_query q a) (has_query r b) =
    ap (λ (x : AlgebraQuery). judged_work changes (make x)) (same_query q r (query_asks_once never one text (Ok q) (Ok r) a b))
work_asks_once never one changes text make o p (has_query q a) (has_none s b) = absurd (never_both q s (query_asks_once never one text (Ok q) (Err s) a b))
work_asks_once never one changes text make o p (has_none s a) (has_query q b) = absurd (never_both q s (query_asks_once never one text (Ok q) (Err s) b a))
work_asks_once {W} never one changes text make o p (has_none s a) (has_none t b) =
    ap (λ (x : Status). let status : Result W Status = Err x in status) (same_status s t (query_asks_once never one text (Err s) (Err t) a b))

work_asks_something : {W : Type 0} → NoTextIsNeither → (changes : List Change) (text : List ℕ) (make : AlgebraQuery → W) → ((o : Result W Status) → AsksWork changes text make o → ⊥) → ⊥
work_asks_something each changes text make none = each text by_query by_refusal
  where
    asked : (r : Read) → QueryAsks text r → ⊥
    asked (Ok q) a = none (judged_work changes (make q)) (has_query q a)
    asked (Err s) a = none (Err s) (has_none s a)

    by_query : (q : AlgebraQuery) → IsTheQuery text q → ⊥
    by_query q a = asked (Ok q) (is_query q a)

    by_refusal : (r : QueryRefusal) → QueryRefused text r → ⊥
    by_refusal r a = asked (Err (status_of r)) (is_refused r a)

-- ---- a text of tables and SQL

sql_asks_once : (tables : List NamedTable) (sql : List ℕ) (o p : Result Running Status) → SqlAsks tables sql o → SqlAsks tables sql p → o ≡ p
sql_asks_once tables sql o p (reads_script s a) (reads_script t b) = ap (judged_script tables) (b.only s a.spells)
sql_asks_once tables sql o p (reads_script s a) (is_deep b) = absurd (a.no_deep b)
sql_asks_once tables sql o p (reads_script s a) (breaks n b) = absurd (spelled_texts_dont_break sql s n a.spells b)
sql_asks_once tables sql o p (is_deep a) (reads_script t b) = absurd (b.no_deep a)
sql_asks_once tables sql o p (is_deep a) (is_deep b) = refl
sql_asks_once tables sql o p (is_deep a) (breaks n b) = absurd (deep_texts_dont_break sql n a b)
sql_asks_once tables sql o p (breaks m a) (reads_script t b) = absurd (spelled_texts_dont_break sql t m b.spells a)
sql_asks_once tables sql o p (breaks m a) (is_deep b) = absurd (deep_texts_dont_break sql m b a)
sql_asks_once tables sql o p (breaks m a) (breaks n b) =
    ap (λ (at : ℕ). let status : Result Running Status = Err (BadSql (fault.Syntax at)) in status) (breaks_at_one_place sql m n a b)

script_asks_once : OneReading → NeverBoth → OneBadLine → (text : List ℕ) (o p : Result Running Status) → ScriptAsks text o → ScriptAsks text p → o ≡ p
script_asks_once one never bad text o p (has_tables s m _ r a) (has_tables t n _ q b) =
    let same = one text t s n m q r in
    sql_asks_once s (drop m text) o p a
    (subst (λ (ts : List NamedTable). SqlAsks ts (drop m text) p) same.0 (subst (λ (at : ℕ). SqlAsks t (drop at text) p) same.1 b))
script_asks_once one never bad text o p (has_tables s m _ r a) (is_bad line b) = absurd (never text s m line r b)
script_asks_once one never bad text o p (is_bad line a) (has_tables t n _ q b) = absurd (never text t n line q a)
script_asks_once one never bad text o p (is_bad k a) (is_bad l b) = ap (λ (line : ℕ). let status : Result Running Status = Err (BadTables line) in status) (bad text k l a b)

script_asks_something : ReadOrBad → NoSqlTextIsNeither → (text : List ℕ) → ((o : Result Running Status) → ScriptAsks text o → ⊥) → ⊥
script_asks_something either each text none = by (either text)
  where
    behind_tables : (tables : List NamedTable) (at : ℕ) → TablesRead text tables at → (o : Result Running Status) → SqlAsks tables (drop at text) o → ⊥
    behind_tables tables at read o a = none o (has_tables tables at o read a)

    by : ((tables : List NamedTable) × (at : ℕ) × TablesRead text tables at) ⊎ ((line : ℕ) × IsFirstBadLine text line) → ⊥
    by (inl r) = each (drop r.1 text)
        (λ (s : Script) (a : SpellsOnly (drop r.1 text) s). behind_tables r.0 r.1 r.2 (judged_script r.0 s) (reads_script s a))
        (λ (a : HasDeepToken (drop r.1 text)). behind_tables r.0 r.1 r.2 (Err (BadSql fault.Deep)) (is_deep a))
        (λ (n : ℕ) (a : BreaksAt (drop r.1 text) n). behind_tables r.0 r.1 r.2 (Err (BadSql (fault.Syntax n))) (breaks n a))
    by (inr b) = none (Err (BadTables b.0)) (is_bad b.0 b.1)

-- ---- the job of any words

none_once : (status : Status) → AsksOnce (no_job status)
none_once status = asks_once (no_job status) (λ input o p a b. absurd a)

none_something : (status : Status) → AsksSomething (no_job status)
none_something status = asks_something (no_job status) (λ input none. absurd input)

pub jobs_ask_once : QueriesAreNotRefused → RefusalsAreUnique → OneReading → NeverBoth → OneBadLine → JobsAskOnce
jobs_ask_once none unique one never bad None = none_once Usage
jobs_ask_once none unique one never bad (Some (Query options names name)) =
    asks_once (query_job options names name) (λ files o p a b. work_asks_once none unique files.changes files.text (answering files.changes) o p a b)
jobs_ask_once none unique one never bad (Some (Exec pieces name)) = asks_once (exec_job name) (λ text o p a b. script_asks_once one never bad text o p a b)
jobs_ask_once none unique one never bad (Some (Stats options names)) = asks_once (stats_job options names) (λ input o p a b. a ∙ sym b)
jobs_ask_once none unique one never bad (Some (Show options names name)) =
    asks_once (show_job options names name) (λ files o p a b. work_asks_once none unique files.changes files.text (showing files.colours files.changes) o p a b)
jobs_ask_once none unique one never bad (Some (Plan options names name)) = none_once NotYet
jobs_ask_once none unique one never bad (Some (Drill options count seed)) = none_once NotYet

pub jobs_ask_something : NoTextIsNeither → ReadOrBad → NoSqlTextIsNeither → JobsAskSomething
jobs_ask_something each either sql None = none_something Usage
jobs_ask_something each either sql (Some (Query options names name)) =
    asks_something (query_job options names name) (λ files none. work_asks_something each files.changes files.text (answering files.changes) none)
jobs_ask_something each either sql (Some (Exec pieces name)) = asks_something (exec_job name) (λ text none. script_asks_something either sql text none)
jobs_ask_something each either sql (Some (Stats options names)) =
    asks_something (stats_job options names) (λ input none. none (judged_work input.changes input) refl)
jobs_ask_something each either sql (Some (Show options names name)) =
    asks_something (show_job options names name) (λ files none. work_asks_something each files.changes files.text (showing files.colours files.changes) none)
jobs_ask_something each either sql (Some (Plan options names name)) = none_something NotYet
jobs_ask_something each either sql (Some (Drill options count seed)) = none_something NotYet
