-- Running a script over tables.
use Rattle.std.specs.Prelude.{◌≡◌, ℕ, List, drop, Result, Ok, Err}
use Rattle.table_meaning.specs.declared.schema.Column.{Column}
use Rattle.table_meaning.specs.Tables.{NamedTable}
use Rattle.table_meaning.specs.CellText.{cells_text}
use Rattle.table_text_meaning.specs.TableText.{TablesRead, IsFirstBadLine}
use Rattle.sql_meaning.specs.declared.script.Script.{Script}
use Rattle.sql_meaning.specs.Texts.{SpellsOnly, HasDeepToken, BreaksAt}
use Rattle.sql_rows_meaning.specs.declared.fault.Fault.{Fault}
use Rattle.sql_rows_meaning.specs.declared.fault.FaultKind.{FaultKind}
use Rattle.sql_rows_meaning.specs.declared.fault.FaultKind.TheVariants as kinds
use Rattle.sql_rows_meaning.specs.Faults.{Checked}
use Rattle.sql_rows_meaning.specs.Scopes.{schemas_in}
use Rattle.sql_rows_meaning.specs.Rows.{script_rows}
use Rattle.sql_rows_meaning.specs.Binding.{check_script}
use Rattle.run_meaning.specs.declared.fault.SqlFault.{SqlFault}
use Rattle.run_meaning.specs.declared.fault.SqlFault.TheVariants as fault
use Rattle.run_meaning.specs.declared.status.Status.{Status}
use Rattle.run_meaning.specs.declared.status.Status.TheVariants.{BadTables, BadSql}
use Rattle.run_meaning.specs.declared.which.Which.TheVariants as which
use Rattle.run_meaning.specs.Limits.{most_file}
use Rattle.run_files_meaning.specs.Files.{text_read}
use Rattle.run_files_meaning.specs.Job.{Job}

-- running the script over the tables
pub record Running : Type 0 where
  pub tables : List NamedTable
  pub script : Script

abbrev pub running : List NamedTable → Script → Running
running tables script = record { tables = tables; script = script }

-- the first fault of a script, as a status names it
abbrev pub fault_in : FaultKind → ℕ → SqlFault
fault_in kinds.NoTable select = fault.NoTable select
fault_in kinds.NoColumn select = fault.NoColumn select
fault_in kinds.Twice select = fault.Twice select
fault_in kinds.KindClash select = fault.KindClash select
fault_in kinds.NotTruth select = fault.NotTruth select

-- a script that binds is run
abbrev pub bound_work : List NamedTable → Script → Checked Fault (List Column) → Result Running Status
bound_work tables script (Ok columns) = Ok (running tables script)
bound_work tables script (Err f) = Err (BadSql (fault_in f.kind f.select))

-- a script that is read is bound over the columns of the tables
abbrev pub judged_script : List NamedTable → Script → Result Running Status
judged_script tables script = bound_work tables script (check_script script (schemas_in tables))

-- what the SQL behind tables asks for: it is read before it is bound, and at most one of these holds of each text
pub data SqlAsks (tables : List NamedTable) (sql : List ℕ) : Result Running Status → Type 0 where
  reads_script : (script : Script) → SpellsOnly sql script → SqlAsks tables sql (judged_script tables script)
  is_deep : HasDeepToken sql → SqlAsks tables sql (Err (BadSql fault.Deep))
  breaks : (at : ℕ) → BreaksAt sql at → SqlAsks tables sql (Err (BadSql (fault.Syntax at)))

-- what a text of tables and SQL asks for: the tables go before the SQL, whose places are counted from its first byte
pub data ScriptAsks (text : List ℕ) : Result Running Status → Type 0 where
  has_tables : (tables : List NamedTable) (at : ℕ) (o : Result Running Status) → TablesRead text tables at → SqlAsks tables (drop at text) o → ScriptAsks text o
  is_bad : (line : ℕ) → IsFirstBadLine text line → ScriptAsks text (Err (BadTables line))

-- the names of the script's columns, and its rows over the tables
pub record ScriptText (work : Running) (text : List ℕ) : Type 0 where
  pub columns : List Column
  pub bound : check_script work.script (schemas_in work.tables) ≡ Ok columns
  pub cells : text ≡ cells_text (record { schema = columns; rows = script_rows work.script work.tables })

-- exec: one file of tables and SQL
abbrev pub exec_job : List ℕ → Job
exec_job name = record {
  Input = List ℕ;
  Work = Running;
  intake = text_read most_file which.File name;
  Asks = ScriptAsks;
  Fits = ScriptText;
}
