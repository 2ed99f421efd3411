-- How cells are written (this project's own; texts as in literals of N-Triples 1.1, section 7).
use Rattle.std.specs.Prelude.{ℕ, Bool, true, false, List, [], ◌∷◌, ◌++◌, map, codes}
use Rattle.std.specs.List.{flat_map}
use Rattle.std.specs.Str.{is_utf8}
use Rattle.rdf_meaning.specs.Spelling.{text_spelling}
use Rattle.table_meaning.specs.declared.cell.Cell.{Cell}
use Rattle.table_meaning.specs.declared.cell.Cell.TheVariants.{Null, Int, Text, Truth}
use Rattle.table_meaning.specs.Schemas.{column_names}
use Rattle.table_meaning.specs.Ints.{int_text, is_wide_int}
use Rattle.table_meaning.specs.Tables.{RowTable}

-- `.` for a null, a number in decimal, a text in double quotes, `T` and `F` for truths
abbrev pub cell_text : Cell → List ℕ
cell_text Null = codes "."
cell_text (Int number) = int_text number
cell_text (Text text) = text_spelling text
cell_text (Truth true) = codes "T"
cell_text (Truth false) = codes "F"

abbrev pub after_tab : List ℕ → List ℕ
after_tab piece = 9 ∷ piece

-- one piece after another, a tab between each two
abbrev pub tabbed : List (List ℕ) → List ℕ
tabbed [] = []
tabbed (piece ∷ pieces) = piece ++ flat_map after_tab pieces

abbrev pub ended : List ℕ → List ℕ
ended line = line ++ 10 ∷ []

-- the line of a row, without its end
abbrev pub row_line : List Cell → List ℕ
row_line cells = tabbed (map cell_text cells)

-- the names of the columns, then the rows, each on a line of its own
abbrev pub cells_text : RowTable → List ℕ
cells_text table = ended (tabbed (column_names table.schema)) ++ flat_map (λ cells. ended (row_line cells)) table.rows

-- a cell that a program can hold: its number has 128 bits, its text is UTF-8
abbrev pub is_held_cell : Cell → Bool
is_held_cell Null = true
is_held_cell (Int number) = is_wide_int number
is_held_cell (Text text) = is_utf8 text
is_held_cell (Truth truth) = true
