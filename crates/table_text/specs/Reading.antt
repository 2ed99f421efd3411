-- What a line of tables reads as, found from its front.
use Rattle.std.specs.Prelude.{◌≡◌, ℕ, ◌+◌, ◌-◌, Bool, true, false, ◌||◌, ◌==◌, not, if◌then◌else◌, List, [], ◌∷◌, ◌++◌, length, take, drop, Option, Some, None, option_map, codes}
use Rattle.std.specs.Borrow.{Bor}
use Rattle.std.specs.List.{list_all}
use Rattle.std.specs.Str.{bytes_eq, is_utf8}
use Rattle.table_meaning.specs.declared.kind.Kind.{Kind}
use Rattle.table_meaning.specs.declared.kind.Kind.TheVariants as kinds
use Rattle.table_meaning.specs.declared.cell.Cell.{Cell}
use Rattle.table_meaning.specs.declared.cell.Cell.TheVariants.{Null, Int, Text}
use Rattle.table_meaning.specs.declared.schema.Column.{Column}
use Rattle.table_meaning.specs.Ints.{int_of}
use Rattle.table_meaning.specs.Names.{is_name}
use Rattle.table_meaning.specs.Schemas.{is_schema}
use Rattle.table_text_meaning.specs.declared.version.Version.{Version}
use Rattle.table_text_meaning.specs.declared.version.Version.TheVariants.{First, Second}
use Rattle.table_text_meaning.specs.TableText.{onto_first}
use Rattle.table_meaning.specs.Tables.{NamedTable, has_table}

infixl 10 ◌>>=◌
abbrev pub ◌>>=◌ : {A B : Type 0} → Option A → (A → Option B) → Option B
None >>= f = None
(Some x) >>= f = f x

-- other than this byte
abbrev pub is_other : ℕ → ℕ → Bool
is_other stop b = not (b == stop)

-- the parts between tabs
abbrev pub fields_of : List ℕ → List (List ℕ)
fields_of [] = [] ∷ []
fields_of (b ∷ bs) = if b == 9 then [] ∷ fields_of bs else onto_first b (fields_of bs)

abbrev pub fields_left : Option (Bor (List ℕ)) → List (List ℕ)
fields_left None = []
fields_left (Some rest) = fields_of rest.now

-- a list before what may follow
abbrev pub before : {X : Type 0} → List X → Option (List X) → Option (List X)
before front rest = option_map (λ xs. front ++ xs) rest

-- what stands in a text by itself
abbrev pub is_raw : ℕ → Bool
is_raw b = not (b == 34 || (b == 92 || (b == 9 || (b == 10 || b == 13))))

-- the byte that a mark behind a backslash stands for
abbrev pub escaped : ℕ → Option ℕ
escaped mark =
    if mark == 116 then Some 9 else (if mark == 110 then Some 10 else (if mark == 114 then Some 13
    else (if mark == 34 then Some 34 else (if mark == 92 then Some 92 else None))))

-- the text before the quote that is the last byte
abbrev pub unquoted : List ℕ → Option (List ℕ)
unquoted [] = None
unquoted (b ∷ []) = if b == 34 then Some [] else None
unquoted (b ∷ c ∷ bs) =
    if b == 92 then escaped c >>= (λ byte. before (byte ∷ []) (unquoted bs))
    else (if is_raw b then before (b ∷ []) (unquoted (c ∷ bs)) else None)

-- a text in quotes
unfoldable pub text_of : List ℕ → Option (List ℕ)
text_of [] = None
text_of (b ∷ bs) = if b == 34 then unquoted bs >>= (λ text. if is_utf8 text then Some text else None) else None

abbrev pub value_of : Kind → List ℕ → Option Cell
value_of kinds.Int field = option_map Int (int_of field)
value_of kinds.Text field = option_map Text (text_of field)
value_of kinds.Truth field = None

-- a cell of this kind, or a null
unfoldable pub cell_of : Kind → List ℕ → Option Cell
cell_of kind field = if bytes_eq field (codes ".") then Some Null else value_of kind field

-- one cell for each column
abbrev pub cells_of : List Column → List (List ℕ) → Option (List Cell)
cells_of [] [] = Some []
cells_of [] (field ∷ fields) = None
cells_of (column ∷ columns) [] = None
cells_of (column ∷ columns) (field ∷ fields) = cell_of column.kind field >>= (λ cell. before (cell ∷ []) (cells_of columns fields))

abbrev pub name_of : List ℕ → Option (List ℕ)
name_of bytes = if is_name bytes then Some bytes else None

-- a name before the mark of a kind
abbrev pub column_as : List ℕ → Kind → List ℕ → Option Column
column_as mark kind field =
    if bytes_eq (drop (length field - length mark) field) mark
    then name_of (take (length field - length mark) field) >>= (λ name. Some (record { name = name; kind = kind })) else None

abbrev pub or_else : {X : Type 0} → Option X → Option X → Option X
or_else (Some x) other = Some x
or_else None other = other

unfoldable pub column_of : List ℕ → Option Column
column_of field = or_else (column_as (codes ":int") kinds.Int field) (column_as (codes ":text") kinds.Text field)

abbrev pub columns_of : List (List ℕ) → Option (List Column)
columns_of [] = Some []
columns_of (field ∷ fields) = column_of field >>= (λ column. before (column ∷ []) (columns_of fields))

abbrev pub schema_of : List (List ℕ) → Option (List Column)
schema_of fields = columns_of fields >>= (λ columns. if is_schema columns then Some columns else None)

-- a table's name and columns, in the parts of a line
abbrev pub head_in : List (List ℕ) → Option (List ℕ × List Column)
head_in [] = None
head_in (name ∷ fields) = name_of name >>= (λ n. schema_of fields >>= (λ columns. Some (n, columns)))

unfoldable pub head_of : List ℕ → Option (List ℕ × List Column)
head_of rest = head_in (fields_of rest)

-- the version that a first line names
abbrev pub version_of : List ℕ → Option Version
version_of line = if bytes_eq line (codes "tables 2") then Some Second else (if bytes_eq line (codes "tables 1") then Some First else None)

-- no line feed stands in it
abbrev pub is_line : List ℕ → Bool
is_line line = list_all (is_other 10) line

abbrev pub left_length : Option (Bor (List ℕ)) → ℕ
left_length None = 0
left_length (Some rest) = length rest.now + 1

-- a head begins so
abbrev pub begins_table : List ℕ → Bool
begins_table line = bytes_eq (take 6 line) (codes "table" ++ 9 ∷ [])

-- a further table, under a new name
abbrev pub with_head : List NamedTable → Option (List ℕ × List Column) → Option (List NamedTable)
with_head tables None = None
with_head tables (Some head) =
    if has_table tables head.0 then None else Some (tables ++ record { name = head.0; schema = head.1; rows = [] } ∷ [])

abbrev pub with_cells : NamedTable → Option (List Cell) → Option NamedTable
with_cells table cells = option_map (λ row. record table { rows = table.rows ++ row ∷ [] }) cells

-- a further row of the last table
abbrev pub with_row : List NamedTable → List ℕ → Option (List NamedTable)
with_row [] line = None
with_row (table ∷ []) line = with_cells table (cells_of table.schema (fields_of line)) >>= (λ t. Some (t ∷ []))
with_row (table ∷ next ∷ tables) line = before (table ∷ []) (with_row (next ∷ tables) line)

-- the tables after a further line, where it goes on with them
abbrev pub step : List NamedTable → List ℕ → Option (List NamedTable)
step tables line = if begins_table line then with_head tables (head_of (drop 6 line)) else with_row tables line

-- whether a line was good, and what it made
abbrev pub Stepped : Bool → List NamedTable → Option (List NamedTable) → Type 0
Stepped true tables next = next ≡ Some tables
Stepped false tables next = next ≡ None
