-- A script that is bound over tables, and run.
use Rattle.std.proofs.Common.{◌≡◌, List, subst, sym, ap, ◌∙◌}
use Rattle.std.specs.Prelude.{Option, Some, Ok, Err}
use Rattle.table_meaning.specs.Tables.{NamedTable, RowTable}
use Rattle.sql_meaning.specs.declared.script.Script.{Script}
use Rattle.sql_rows_meaning.specs.declared.schema.NamedSchema.{NamedSchema}
use Rattle.sql_rows_meaning.specs.declared.fault.Fault.{Fault}
use Rattle.sql_rows_meaning.specs.Binding.{check_script}
use Rattle.sql_rows_meaning.specs.Scopes.{schemas_in}
use Rattle.sql_rows_meaning.specs.Rows.{script_rows}
use Rattle.sql_bind_forms.specs.Forms.{BoundForm, HasRowsOf}
use Rattle.sql_bind.specs.declared.refusal.BindRefusal.{BindRefusal}
use Rattle.sql_bind.specs.Refusals.{fault_of}
use Rattle.sql_bind.specs.Bound.{IsBoundFrom}
use Rattle.run_script.specs.Rows.{AreRowsOf}

-- what was bound over equal schemas
pub bound_over : (script : Script) (given schemas : List NamedSchema) (b : BoundForm) → given ≡ schemas → IsBoundFrom script given b → IsBoundFrom script schemas b
bound_over script given schemas b same bound = subst (λ (ss : List NamedSchema). IsBoundFrom script ss b) same bound

-- and the first fault over equal schemas
pub refused_over : (script : Script) (given schemas : List NamedSchema) (e : BindRefusal) → given ≡ schemas
    → ((f : Fault) → fault_of e ≡ Some f → check_script script given ≡ Err f) → (f : Fault) → fault_of e ≡ Some f → check_script script schemas ≡ Err f
refused_over script given schemas e same first f is = ap (check_script script) (sym same) ∙ first f is

-- a script is run over the tables for which it is bound
pub same_tables : (script : Script) (tables : List NamedTable) (b : BoundForm) → IsBoundFrom script (schemas_in tables) b → schemas_in tables ≡ b.tables
same_tables script tables b bound = sym bound.tables

pub rows_are : (script : Script) (tables : List NamedTable) (b : BoundForm) (list : RowTable) → IsBoundFrom script (schemas_in tables) b
    → ((s : Script) → HasRowsOf s b → list ≡ record { schema = b.columns; rows = script_rows s tables }) → AreRowsOf script tables list
rows_are script tables b list bound run =
    let same = run script bound.rows in
    record { bound = bound.columns ∙ ap (λ (l : RowTable). Ok l.schema) (sym same); rows = ap (λ (l : RowTable). l.rows) same }
