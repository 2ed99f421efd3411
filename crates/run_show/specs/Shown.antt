-- The text of a store's tables and of a script for a query over them.
use Rattle.std.specs.Prelude.{◌≡◌, ℕ, List, [], ◌∷◌, ◌++◌}
use Rattle.table_meaning.specs.CellText.{ended}
use Rattle.table_meaning.specs.Tables.{NamedTable}
use Rattle.table_text_meaning.specs.TableText.{sql_line, table_text}
use Rattle.layout_standing_meaning.specs.Stored.{StoreOf, layout_of, tables_of, stored_triples}
use Rattle.query_meaning.specs.declared.query.Query.{Query}
use Rattle.sql_meaning.specs.declared.script.Script.{Script}
use Rattle.sql_meaning.specs.Canon.{canon}
use Rattle.run_show_meaning.specs.Scripts.{IsScriptFor}

-- the text of tables, the line that ends them, and the one spelling of a script with a line feed behind it
abbrev pub shown_text : List NamedTable → Script → List ℕ
shown_text tables script = table_text tables ++ (ended sql_line ++ (canon script ++ 10 ∷ []))

-- the text of a store's tables and of some script for the query over them
pub record IsStoreShown (s : StoreOf) (query : Query) (text : List ℕ) : Type 0 where
  pub script : Script
  pub is_script : IsScriptFor (layout_of s) (tables_of s) (stored_triples s) query script
  pub written : text ≡ shown_text (tables_of s) script
