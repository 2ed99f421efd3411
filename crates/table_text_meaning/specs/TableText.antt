-- Tables as text (this project's own).
use Rattle.std.specs.Prelude.{◌≡◌, ℕ, ◌+◌, ◌-◌, ◌≤◌, Bool, true, false, ◌&&◌, ◌==◌, if◌then◌else◌, ◌⊎◌, List, [], ◌∷◌, ◌++◌, map, length, take, codes, IsTrue}
use Rattle.std.specs.List.{flat_map, list_all}
use Rattle.table_meaning.specs.declared.kind.Kind.{Kind}
use Rattle.table_meaning.specs.declared.kind.Kind.TheVariants as kinds
use Rattle.table_meaning.specs.declared.schema.Column.{Column}
use Rattle.table_meaning.specs.Names.{is_name}
use Rattle.table_meaning.specs.Tables.{NamedTable, is_table_set}
use Rattle.table_meaning.specs.CellText.{is_held_cell, tabbed, ended, row_line}
use Rattle.table_text_meaning.specs.declared.version.Version.{Version}
use Rattle.table_text_meaning.specs.declared.version.Version.TheVariants.{Second}
use Rattle.table_text_meaning.specs.Versions.{version_line, tables_meant}

-- the line that ends the tables
abbrev pub sql_line : List ℕ
sql_line = codes "-- sql"

-- no line of a table has a truth
abbrev pub kind_mark : Kind → List ℕ
kind_mark kinds.Int = codes ":int"
kind_mark kinds.Text = codes ":text"
kind_mark kinds.Truth = codes ":truth"

abbrev pub column_text : Column → List ℕ
column_text column = column.name ++ kind_mark column.kind

-- `table`, its name, and its columns with their kinds
abbrev pub head_line : List ℕ → List Column → List ℕ
head_line name columns = tabbed (codes "table" ∷ name ∷ map column_text columns)

-- the line of a table's head, then a line for each row
abbrev pub table_lines : NamedTable → List (List ℕ)
table_lines table = head_line table.name table.schema ∷ map row_line table.rows

abbrev pub tables_lines : Version → List NamedTable → List (List ℕ)
tables_lines version tables = version_line version ∷ flat_map table_lines tables

-- lines, each with its end
abbrev pub text_of_lines : List (List ℕ) → List ℕ
text_of_lines lines = flat_map ended lines

-- the lines before the one that ends the tables
abbrev pub text_in : Version → List NamedTable → List ℕ
text_in version tables = text_of_lines (tables_lines version tables)

-- the text that is written
abbrev pub table_text : List NamedTable → List ℕ
table_text tables = text_in Second tables

abbrev pub is_truth : Kind → Bool
is_truth kinds.Int = false
is_truth kinds.Text = false
is_truth kinds.Truth = true

-- a column that can be written: its name is one of the dialect, and it has no truths
abbrev pub is_plain_column : Column → Bool
is_plain_column column = is_name column.name && (if is_truth column.kind then false else true)

-- a table that can be written
abbrev pub is_plain_table : NamedTable → Bool
is_plain_table table = is_name table.name && list_all is_plain_column table.schema

abbrev pub is_held_table : NamedTable → Bool
is_held_table table = list_all (list_all is_held_cell) table.rows

-- tables that a text can spell
abbrev pub is_spelled_set : List NamedTable → Bool
is_spelled_set tables = is_table_set tables && (list_all is_plain_table tables && list_all is_held_table tables)

-- The bytes begin with the text of tables in a version and the line that ends it, the SQL begins at this place, and these are the tables
-- that are meant. Each name, number and text has one spelling, so one list of tables at most is read.
pub record TablesRead (bytes : List ℕ) (tables : List NamedTable) (at : ℕ) : Type 0 where
  pub version : Version
  pub written : List NamedTable
  pub spelled : IsTrue (is_spelled_set written)
  pub place : at ≡ length (text_in version written ++ ended sql_line)
  pub text : take at bytes ≡ text_in version written ++ ended sql_line
  pub meant : tables ≡ tables_meant version written

-- a byte before the first line
abbrev pub onto_first : ℕ → List (List ℕ) → List (List ℕ)
onto_first b [] = []
onto_first b (line ∷ lines) = (b ∷ line) ∷ lines

-- the lines that a line feed ends, without it; what follows the last one is no line
abbrev pub lines_of : List ℕ → List (List ℕ)
lines_of [] = []
lines_of (b ∷ bs) = if b == 10 then [] ∷ lines_of bs else onto_first b (lines_of bs)

-- lines of a text of tables in some version, the one that ends it not among them
abbrev pub BeginTables : List (List ℕ) → Type 0
BeginTables lines = (lines ≡ []) ⊎ ((version : Version) × (tables : List NamedTable) × IsTrue (is_spelled_set tables) × (lines ≡ tables_lines version tables))

-- all lines of a text of tables
abbrev pub EndTables : List (List ℕ) → Type 0
EndTables lines = (version : Version) × (tables : List NamedTable) × IsTrue (is_spelled_set tables) × (lines ≡ tables_lines version tables ++ sql_line ∷ [])

-- The lines before this one begin a text of tables, and with it they neither begin nor end one; lines are counted from 1.
-- A text that ends sooner is bad at the line after its last line feed.
pub record IsFirstBadLine (bytes : List ℕ) (line : ℕ) : Type 0 where
  pub counted : 1 ≤ line
  pub there : line ≤ length (lines_of bytes) + 1
  pub before : BeginTables (take (line - 1) (lines_of bytes))
  pub bad : line ≤ length (lines_of bytes) → ¬ (BeginTables (take line (lines_of bytes)) ⊎ EndTables (take line (lines_of bytes)))
