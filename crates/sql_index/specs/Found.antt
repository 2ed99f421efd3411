-- What an index finds.
use Rattle.std.specs.Prelude.{◌≡◌, ℕ, ◌+◌, ◌*◌, ℤ, pos, negsuc, List, [], nat_eq, if◌then◌else◌, unwrap_or}
use Rattle.std.specs.HashMap.{get}
use Rattle.std.specs.Str.{bytes_eq}
use Rattle.table_meaning.specs.declared.cell.Cell.{Cell}
use Rattle.table_meaning.specs.declared.cell.Cell.TheVariants.{Null, Int, Text, Truth}
use Rattle.sql_index.specs.Columns.{column_cells}
use Rattle.sql_index.specs.Matches.{equal_rows}
use Rattle.sql_index.specs.declared.index.Index.{Index}

-- a number without a sign: 0, -1, 1, -2, 2, .. in this order
abbrev pub number_code : ℤ → ℕ
number_code (pos n) = 2 * n
number_code (negsuc n) = 2 * n + 1

-- the rows of a key, by the rows of codes, of texts and of truths
abbrev pub found_by : (ℕ → List ℕ) → (List ℕ → List ℕ) → List ℕ → List ℕ → Cell → List ℕ
found_by numbers texts trues falses Null = []
found_by numbers texts trues falses (Int n) = numbers (number_code n)
found_by numbers texts trues falses (Text t) = texts t
found_by numbers texts trues falses (Truth b) = if b then trues else falses

-- the rows that an index has for a key
abbrev pub found : Index → Cell → List ℕ
found i key = found_by (λ q. unwrap_or (get nat_eq i.numbers q) []) (λ t. unwrap_or (get bytes_eq i.texts t) []) i.trues i.falses key

-- for each key an index finds the rows whose cell of this column equals the key, rising
abbrev pub IsIndexOf : Index → List (List Cell) → ℕ → Type 0
IsIndexOf i rows column = (key : Cell) → found i key ≡ equal_rows (column_cells rows column) key
