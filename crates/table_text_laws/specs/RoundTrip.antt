-- Tables that are written are read, and what their text may be read as by what the writer and the reader promise.
use Rattle.std.specs.Prelude.{ℕ, List, ◌++◌, ◌≡◌, ◌⊎◌, length, IsTrue, Result, Ok, Err, IfOk}
use Rattle.table_meaning.specs.CellText.{ended}
use Rattle.table_meaning.specs.Tables.{NamedTable}
use Rattle.table_text_meaning.specs.TableText.{table_text, sql_line, is_spelled_set, TablesRead, IsFirstBadLine}
use Rattle.table_text.specs.declared.refusal.TableRefusal.{TableRefusal}
use Rattle.table_text.specs.declared.refusal.TableRefusal.TheVariants.{NoMemory, Bad}
use Rattle.table_text.specs.declared.tables.ReadTables.{ReadTables}

-- the text of tables with the line that ends it
abbrev pub whole_text : List NamedTable → List ℕ
whole_text tables = table_text tables ++ ended sql_line

abbrev pub WrittenTablesAreRead : Type 0
WrittenTablesAreRead = (tables : List NamedTable) (sql : List ℕ) → IsTrue (is_spelled_set tables) → TablesRead (whole_text tables ++ sql) tables (length (whole_text tables))

-- the writer promises that the tables are spelled by their text; `sql` is what follows the line that ends it
abbrev pub WrittenTablesAreReadBack : Type 0
WrittenTablesAreReadBack =
    (tables : List NamedTable) (sql : List ℕ) (answer : Result ReadTables TableRefusal) → IsTrue (is_spelled_set tables)
    → IfOk answer (λ read. TablesRead (whole_text tables ++ sql) read.tables read.sql_at)
    → ((line : ℕ) → answer ≡ Err (Bad line) → IsFirstBadLine (whole_text tables ++ sql) line)
    → (answer ≡ Ok (record { tables = tables; sql_at = length (whole_text tables) })) ⊎ (answer ≡ Err NoMemory)
