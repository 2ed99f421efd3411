-- How far the lines of tables are written.
use Rattle.std.specs.Prelude.{ℕ, zero, suc, Bool, List, [], ◌∷◌, ◌++◌, length, take, slice_get, unwrap_or}
use Rattle.std.specs.List.{list_all}
use Rattle.table_meaning.specs.declared.cell.Cell.{Cell}
use Rattle.table_meaning.specs.declared.cell.Cell.TheVariants.{Null}
use Rattle.table_meaning.specs.CellText.{cell_text, ended}
use Rattle.table_meaning.specs.CellText.{is_held_cell}
use Rattle.table_text_meaning.specs.TableText.{head_line}
use Rattle.table_meaning.specs.Tables.{NamedTable, table_at, row_at}

-- a tab before each cell but the first
abbrev pub tab_before : ℕ → List ℕ
tab_before zero = []
tab_before (suc col) = 9 ∷ []

-- the first cells of a row
unfoldable pub row_front : List Cell → ℕ → List ℕ
row_front cells zero = []
row_front cells (suc col) = row_front cells col ++ (tab_before col ++ cell_text (unwrap_or (slice_get cells col) Null))

-- the first rows of a table
unfoldable pub rows_front : List NamedTable → ℕ → ℕ → List ℕ
rows_front tables t zero = []
rows_front tables t (suc row) = rows_front tables t row ++ ended (row_front (row_at tables t row) (length (table_at tables t).schema))

-- a table's head and rows
abbrev pub table_front : List NamedTable → ℕ → List ℕ
table_front tables t = ended (head_line (table_at tables t).name (table_at tables t).schema) ++ rows_front tables t (length (table_at tables t).rows)

-- the first tables
unfoldable pub tables_front : List NamedTable → ℕ → List ℕ
tables_front tables zero = []
tables_front tables (suc t) = tables_front tables t ++ table_front tables t

-- the first cells of a row are cells that a text can spell
abbrev pub cells_held : List Cell → ℕ → Bool
cells_held cells n = list_all is_held_cell (take n cells)

-- the first rows of a table have such cells under its columns
abbrev pub rows_held : List NamedTable → ℕ → ℕ → Bool
rows_held tables t n = list_all (λ cells. cells_held cells (length (table_at tables t).schema)) (take n (table_at tables t).rows)

-- the first tables have such rows
abbrev pub tables_held : List NamedTable → ℕ → Bool
tables_held tables n = list_all (λ table. list_all (λ cells. cells_held cells (length table.schema)) table.rows) (take n tables)
