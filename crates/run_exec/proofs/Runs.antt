-- What a script that is bound and run gives, or why it isn't run.
use Rattle.std.proofs.Common.{◌≡◌, ℕ, true, List, refl, sym, ap, ◌∙◌, subst}
use Rattle.std.proofs.lemmas.Bool.{and_parts}
use Rattle.std.specs.Prelude.{Option, Some, None, Result, Ok, Err, MatchOption, nat_le}
use Rattle.table_meaning.specs.declared.cell.Cell.{Cell}
use Rattle.table_meaning.specs.CellText.{cells_text}
use Rattle.table_meaning.specs.Tables.{NamedTable, RowTable}
use Rattle.sql_meaning.specs.Scripts.{depth_of, most_levels, script_form, is_writable}
use Rattle.sql_meaning.specs.declared.script.Script.{Script}
use Rattle.sql_rows_meaning.specs.declared.fault.Fault.{Fault}
use Rattle.sql_rows_meaning.specs.Scopes.{schemas_in}
use Rattle.sql_rows_meaning.specs.Binding.{check_script}
use Rattle.sql_bind.specs.declared.refusal.BindRefusal.{BindRefusal}
use Rattle.sql_bind.specs.Refusals.{fault_of}
use Rattle.run_script.specs.Rows.{AreRowsOf}
use Rattle.run_meaning.specs.declared.status.Status.{Status}
use Rattle.run_meaning.specs.declared.status.Status.TheVariants.{BadSql, NoMemory}
use Rattle.run_exec_meaning.specs.Running.{Running, running, fault_in, bound_work, judged_script, ScriptAsks, ScriptText}
use Rattle.run_files_meaning.specs.Refusal.{RefusedAs}
use Rattle.run_files_meaning.proofs.Takes.{refused_map}

-- a script that can be written has the forms of the dialect
pub writable_form : (script : Script) → is_writable script ≡ true → script_form script ≡ true
writable_form script h = (and_parts (nat_le (depth_of script) most_levels) (script_form script) h).1

-- the first fault is the status that is asked for
pub bind_refused : (e : BindRefusal) (status : Status) (script : Script) (tables : List NamedTable)
    → ((f : Fault) → fault_of e ≡ Some f → check_script script (schemas_in tables) ≡ Err f)
    → MatchOption (fault_of e) (status ≡ NoMemory) (λ f. status ≡ BadSql (fault_in f.kind f.select))
    → RefusedAs status (λ s. judged_script tables script ≡ Err s)
bind_refused e status script tables first told = by (fault_of e) refl told
  where
    Owed : Status → Type 0
    Owed s = RefusedAs s (λ t. judged_script tables script ≡ Err t)

    by : (o : Option Fault) → fault_of e ≡ o → MatchOption o (status ≡ NoMemory) (λ f. status ≡ BadSql (fault_in f.kind f.select)) → Owed status
    by None h is = subst Owed (sym is) tt
    by (Some f) h is =
        subst Owed (sym is) (ap (bound_work tables script) (first f h))

-- a script that has rows is run
pub rows_judged : (script : Script) (tables : List NamedTable) (rows : RowTable) → AreRowsOf script tables rows → judged_script tables script ≡ Ok (running tables script)
rows_judged script tables rows are = ap (bound_work tables script) are.bound

-- the cells of the script's rows are those that are asked for
pub cells_fit : (script : Script) (tables : List NamedTable) (rows : RowTable) (cells : List ℕ) → AreRowsOf script tables rows → cells ≡ cells_text rows → ScriptText (running tables script) cells
cells_fit script tables rows cells are text = record {
  columns = rows.schema;
  bound = are.bound;
  cells = text ∙ ap (λ (rs : List (List Cell)). cells_text (record { schema = rows.schema; rows = rs })) are.rows;
}

-- what the text asks for, where its script is run
pub text_asks : (text : List ℕ) (tables : List NamedTable) (script : Script) (cells : List ℕ) → ScriptAsks text (judged_script tables script)
    → judged_script tables script ≡ Ok (running tables script) → ScriptText (running tables script) cells → (work : Running) × ScriptAsks text (Ok work) × ScriptText work cells
text_asks text tables script cells asks judged fits = (running tables script, subst (λ (o : Result Running Status). ScriptAsks text o) judged asks, fits)

-- what the text asks for, where its script is not run
pub text_refused : (text : List ℕ) (tables : List NamedTable) (script : Script) (status : Status) → ScriptAsks text (judged_script tables script)
    → RefusedAs status (λ s. judged_script tables script ≡ Err s) → RefusedAs status (λ s. ScriptAsks text (Err s))
text_refused text tables script status asks r =
    refused_map status (λ s. judged_script tables script ≡ Err s) (λ s. ScriptAsks text (Err s)) (λ s e. subst (λ (o : Result Running Status). ScriptAsks text o) e asks) r
