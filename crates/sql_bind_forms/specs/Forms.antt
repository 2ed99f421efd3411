-- A bound script (this project's own): its form with places, the columns of its rows, and the tables over which it was bound.
use Rattle.std.specs.Prelude.{◌≡◌, true, List, Ok}
use Rattle.std.specs.List.{list_all}
use Rattle.std.proofs.Common.{ap, ◌∙◌}
use Rattle.table_meaning.specs.declared.schema.Column.{Column}
use Rattle.table_meaning.specs.Tables.{NamedTable, is_table, are_rows}
use Rattle.sql_meaning.specs.declared.script.Script.{Script}
use Rattle.sql_rows_meaning.specs.declared.schema.NamedSchema.{NamedSchema}
use Rattle.sql_rows_meaning.specs.Scopes.{schemas_in}
use Rattle.sql_rows_meaning.specs.Rows.{script_rows}
use Rattle.sql_rows_meaning.specs.Binding.{check_script}
use Rattle.sql_rows_laws.specs.ScriptLaws.{script-fits}
use Rattle.sql_bind_meaning.specs.declared.script.BoundScript.{BoundScript}
use Rattle.sql_bind_meaning.specs.Rows.{bound_rows}

pub record BoundForm : Type 0 where
  pub placed : BoundScript
  pub columns : List Column
  pub tables : List NamedSchema

-- over all tables with the schemas that were bound, each row has a cell for each column, of its kind or null
abbrev pub HasRowsOfItsColumns : BoundForm → Type 0
HasRowsOfItsColumns b = (tables : List NamedTable) → list_all is_table tables ≡ true → schemas_in tables ≡ b.tables → are_rows b.columns (bound_rows b.placed tables) ≡ true

-- over all tables with the schemas that were bound, its rows are those of the script
abbrev pub HasRowsOf : Script → BoundForm → Type 0
HasRowsOf s b = (tables : List NamedTable) → schemas_in tables ≡ b.tables → bound_rows b.placed tables ≡ script_rows s tables

-- the rows of a script that binds have the kinds of its columns
pub bound_fits : (s : Script) (b : BoundForm) → check_script s b.tables ≡ Ok b.columns → HasRowsOf s b → HasRowsOfItsColumns b
bound_fits s b columns rows tables all same =
    ap (are_rows b.columns) (rows tables same) ∙ script-fits s tables b.columns all (ap (check_script s) same ∙ columns)
