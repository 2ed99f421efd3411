-- What a script gives over tables.
use Rattle.std.specs.Prelude.{◌≡◌, List, Ok}
use Rattle.table_meaning.specs.Tables.{NamedTable, RowTable}
use Rattle.sql_meaning.specs.declared.script.Script.{Script}
use Rattle.sql_rows_meaning.specs.Binding.{check_script}
use Rattle.sql_rows_meaning.specs.Scopes.{schemas_in}
use Rattle.sql_rows_meaning.specs.Rows.{script_rows}

-- the script binds over the tables, and these are its columns and its rows
pub record AreRowsOf (script : Script) (tables : List NamedTable) (list : RowTable) : Type 0 where
  pub bound : check_script script (schemas_in tables) ≡ Ok list.schema
  pub rows : list.rows ≡ script_rows script tables
