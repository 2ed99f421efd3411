-- The versions of tables as text (this project's own). In the first one the table of terms has the labels of blank nodes as they stood in
-- the one data file; where such a text is read, the labels are those of data file 0: `f0b` and the label.
use Rattle.std.specs.Prelude.{ℕ, pos, negsuc, Bool, true, false, ◌&&◌, ◌==◌, if◌then◌else◌, List, [], ◌∷◌, ◌++◌, map, codes}
use Rattle.std.specs.Str.{bytes_eq}
use Rattle.table_meaning.specs.declared.kind.Kind.{Kind}
use Rattle.table_meaning.specs.declared.kind.Kind.TheVariants as kinds
use Rattle.table_meaning.specs.declared.cell.Cell.{Cell}
use Rattle.table_meaning.specs.declared.cell.Cell.TheVariants.{Null, Int, Text, Truth}
use Rattle.table_meaning.specs.declared.schema.Column.{Column}
use Rattle.table_meaning.specs.Tables.{NamedTable}
use Rattle.table_text_meaning.specs.declared.version.Version.{Version}
use Rattle.table_text_meaning.specs.declared.version.Version.TheVariants.{First, Second}

-- the first line
abbrev pub version_line : Version → List ℕ
version_line First = codes "tables 1"
version_line Second = codes "tables 2"

abbrev pub is_int : Kind → Bool
is_int kinds.Int = true
is_int kinds.Text = false
is_int kinds.Truth = false

abbrev pub is_text : Kind → Bool
is_text kinds.Int = false
is_text kinds.Text = true
is_text kinds.Truth = false

abbrev pub is_int_column : List ℕ → Column → Bool
is_int_column name column = bytes_eq column.name name && is_int column.kind

abbrev pub is_text_column : List ℕ → Column → Bool
is_text_column name column = bytes_eq column.name name && is_text column.kind

-- these five columns in this order
abbrev pub are_term_columns : List Column → Bool
are_term_columns (id ∷ cls ∷ num ∷ txt ∷ aux ∷ []) =
    is_int_column (codes "id") id && (is_int_column (codes "cls") cls && (is_int_column (codes "num") num && (is_text_column (codes "txt") txt && is_text_column (codes "aux") aux)))
are_term_columns columns = false

-- the table of terms
abbrev pub is_term_table : NamedTable → Bool
is_term_table table = bytes_eq table.name (codes "TERM") && are_term_columns table.schema

-- the class of blank nodes
abbrev pub is_blank_class : Cell → Bool
is_blank_class Null = false
is_blank_class (Int (pos n)) = n == 1
is_blank_class (Int (negsuc n)) = false
is_blank_class (Text text) = false
is_blank_class (Truth truth) = false

-- a label of data file 0, where it isn't null
abbrev pub of_first_file : Cell → Cell
of_first_file Null = Null
of_first_file (Int number) = Int number
of_first_file (Text label) = Text (codes "f0b" ++ label)
of_first_file (Truth truth) = Truth truth

-- a row of the table of terms, with the label of a blank node read so
abbrev pub with_label : List Cell → List Cell
with_label (id ∷ cls ∷ num ∷ txt ∷ aux ∷ []) = id ∷ cls ∷ num ∷ (if is_blank_class cls then of_first_file txt else txt) ∷ aux ∷ []
with_label cells = cells

abbrev pub with_labels : NamedTable → NamedTable
with_labels table = if is_term_table table then record { name = table.name; schema = table.schema; rows = map with_label table.rows } else table

-- the tables that are meant where these are written
abbrev pub tables_meant : Version → List NamedTable → List NamedTable
tables_meant First written = map with_labels written
tables_meant Second written = written
