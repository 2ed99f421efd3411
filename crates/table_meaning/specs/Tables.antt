-- Rows under a schema, and sets of named tables.
use Rattle.std.specs.Prelude.{ℕ, Bool, true, false, ◌&&◌, List, [], ◌∷◌, map, slice_get, unwrap_or}
use Rattle.std.specs.List.{list_any, list_all}
use Rattle.std.specs.Str.{bytes_eq}
use Rattle.table_meaning.specs.declared.kind.Kind.{Kind}
use Rattle.table_meaning.specs.declared.kind.Kind.TheVariants as kinds
use Rattle.table_meaning.specs.declared.cell.Cell.{Cell}
use Rattle.table_meaning.specs.declared.cell.Cell.TheVariants.{Null, Int, Text, Truth}
use Rattle.table_meaning.specs.declared.schema.Column.{Column}
use Rattle.table_meaning.specs.Schemas.{is_schema, are_distinct}

-- a cell of this kind, or a null
abbrev pub has_kind : Kind → Cell → Bool
has_kind kind Null = true
has_kind kinds.Int (Int number) = true
has_kind kinds.Text (Text text) = true
has_kind kinds.Truth (Truth truth) = true
has_kind kind cell = false

-- one cell for each column, of its kind
abbrev pub is_row : List Column → List Cell → Bool
is_row [] [] = true
is_row [] (cell ∷ cells) = false
is_row (column ∷ columns) [] = false
is_row (column ∷ columns) (cell ∷ cells) = has_kind column.kind cell && is_row columns cells

abbrev pub are_rows : List Column → List (List Cell) → Bool
are_rows columns rows = list_all (is_row columns) rows

-- a schema and its rows
pub record RowTable : Type 0 where
  pub schema : List Column
  pub rows : List (List Cell)

-- a table under a name
pub record NamedTable : Type 0 where
  pub name : List ℕ
  pub schema : List Column
  pub rows : List (List Cell)

-- rows under a name
abbrev pub named : List ℕ → RowTable → NamedTable
named name table = record { name = name; schema = table.schema; rows = table.rows }

abbrev pub is_table : NamedTable → Bool
is_table table = is_schema table.schema && are_rows table.schema table.rows

abbrev pub table_name : NamedTable → List ℕ
table_name table = table.name

-- tables with distinct names
abbrev pub is_table_set : List NamedTable → Bool
is_table_set tables = are_distinct (map table_name tables) && list_all is_table tables

-- some table has this name
abbrev pub has_table : List NamedTable → List ℕ → Bool
has_table tables name = list_any (λ table. bytes_eq name table.name) tables

abbrev pub no_table : NamedTable
no_table = record { name = []; schema = []; rows = [] }

-- the table at a place
abbrev pub table_at : List NamedTable → ℕ → NamedTable
table_at tables t = unwrap_or (slice_get tables t) no_table

-- the row at a place of the table at a place
abbrev pub row_at : List NamedTable → ℕ → ℕ → List Cell
row_at tables t row = unwrap_or (slice_get (table_at tables t).rows row) []

-- the cell at a place of that row
abbrev pub cell_at : List NamedTable → ℕ → ℕ → ℕ → Cell
cell_at tables t row col = unwrap_or (slice_get (row_at tables t row) col) Null
