-- The tables that are meant are tables under distinct names, and can be written.
use Rattle.std.proofs.Common.{◌≡◌, ℕ, Bool, true, false, cond, List, [], ◌∷◌, map, IsTrue, refl, ap, ◌∙◌}
use Rattle.std.specs.Prelude.{◌&&◌}
use Rattle.std.specs.List.{list_all}
use Rattle.table_meaning.specs.declared.kind.Kind.{Kind}
use Rattle.table_meaning.specs.declared.kind.Kind.TheVariants as kinds
use Rattle.table_meaning.specs.declared.cell.Cell.{Cell}
use Rattle.table_meaning.specs.declared.cell.Cell.TheVariants.{Null, Int, Text, Truth}
use Rattle.table_meaning.specs.declared.schema.Column.{Column}
use Rattle.std.proofs.lemmas.Bool.{and_parts}
use Rattle.table_meaning.specs.Names.{is_name}
use Rattle.table_meaning.specs.Schemas.{is_schema, are_distinct}
use Rattle.table_meaning.specs.Tables.{NamedTable, has_kind, is_row, are_rows, is_table, table_name, is_table_set}
use Rattle.table_text_meaning.specs.declared.version.Version.{Version}
use Rattle.table_text_meaning.specs.declared.version.Version.TheVariants.{First, Second}
use Rattle.table_text_meaning.specs.TableText.{is_plain_column, is_plain_table, is_held_table, is_spelled_set, TablesRead}
use Rattle.table_text_meaning.specs.Versions.{is_term_table, is_blank_class, of_first_file, with_label, with_labels, tables_meant}

label_fits : (kind : Kind) (cell : Cell) → has_kind kind (of_first_file cell) ≡ has_kind kind cell
label_fits kind Null = refl
label_fits kind (Int number) = refl
label_fits kinds.Int (Text text) = refl
label_fits kinds.Text (Text text) = refl
label_fits kinds.Truth (Text text) = refl
label_fits kind (Truth truth) = refl

either_fits : (kind : Kind) (b : Bool) (cell : Cell) → has_kind kind (cond b (of_first_file cell) cell) ≡ has_kind kind cell
either_fits kind true cell = label_fits kind cell
either_fits kind false cell = refl

row_fits : (columns : List Column) (cells : List Cell) → is_row columns (with_label cells) ≡ is_row columns cells
row_fits columns [] = refl
row_fits columns (a ∷ []) = refl
row_fits columns (a ∷ b ∷ []) = refl
row_fits columns (a ∷ b ∷ c ∷ []) = refl
row_fits columns (a ∷ b ∷ c ∷ d ∷ []) = refl
row_fits columns (a ∷ b ∷ c ∷ d ∷ e ∷ f ∷ cells) = refl
row_fits [] (a ∷ b ∷ c ∷ d ∷ e ∷ []) = refl
row_fits (p ∷ []) (a ∷ b ∷ c ∷ d ∷ e ∷ []) = refl
row_fits (p ∷ q ∷ []) (a ∷ b ∷ c ∷ d ∷ e ∷ []) = refl
row_fits (p ∷ q ∷ r ∷ []) (a ∷ b ∷ c ∷ d ∷ e ∷ []) = refl
row_fits (p ∷ q ∷ r ∷ s ∷ columns) (a ∷ b ∷ c ∷ d ∷ e ∷ []) =
    ap (λ x. has_kind p.kind a && (has_kind q.kind b && (has_kind r.kind c && (x && is_row columns (e ∷ []))))) (either_fits s.kind (is_blank_class b) d)

rows_fit : (columns : List Column) (rows : List (List Cell)) → are_rows columns (map with_label rows) ≡ are_rows columns rows
rows_fit columns [] = refl
rows_fit columns (row ∷ rows) = λ i. row_fits columns row i && rows_fit columns rows i

table_fits : (table : NamedTable) → (is_table (with_labels table) ≡ is_table table) × (table_name (with_labels table) ≡ table_name table)
table_fits table = by (is_term_table table)
  where
    labelled : NamedTable
    labelled = record { name = table.name; schema = table.schema; rows = map with_label table.rows }

    by : (b : Bool) → (is_table (cond b labelled table) ≡ is_table table) × (table_name (cond b labelled table) ≡ table_name table)
    by true = (ap (λ x. is_schema table.schema && x) (rows_fit table.schema table.rows), refl)
    by false = (refl, refl)

tables_fit : (tables : List NamedTable) → list_all is_table (map with_labels tables) ≡ list_all is_table tables
tables_fit [] = refl
tables_fit (table ∷ tables) = λ i. (table_fits table).0 i && tables_fit tables i

names_fit : (tables : List NamedTable) → map table_name (map with_labels tables) ≡ map table_name tables
names_fit [] = refl
names_fit (table ∷ tables) = λ i. (table_fits table).1 i ∷ names_fit tables i

pub meant_set : (version : Version) (tables : List NamedTable) → is_table_set (tables_meant version tables) ≡ is_table_set tables
meant_set First tables = λ i. are_distinct (names_fit tables i) && tables_fit tables i
meant_set Second tables = refl

plain_fits : (table : NamedTable) → is_plain_table (with_labels table) ≡ is_plain_table table
plain_fits table = by (is_term_table table)
  where
    labelled : NamedTable
    labelled = record { name = table.name; schema = table.schema; rows = map with_label table.rows }

    by : (b : Bool) → is_plain_table (cond b labelled table) ≡ is_plain_table table
    by true = refl
    by false = refl

plains_fit : (tables : List NamedTable) → list_all is_plain_table (map with_labels tables) ≡ list_all is_plain_table tables
plains_fit [] = refl
plains_fit (table ∷ tables) = λ i. plain_fits table i && plains_fit tables i

meant_plain : (version : Version) (tables : List NamedTable) → list_all is_plain_table (tables_meant version tables) ≡ list_all is_plain_table tables
meant_plain First tables = plains_fit tables
meant_plain Second tables = refl

-- tables that are read can be written again
pub read_plain : (bytes : List ℕ) (tables : List NamedTable) (at : ℕ) → TablesRead bytes tables at → IsTrue (list_all is_plain_table tables)
read_plain bytes tables at r =
    let parts = and_parts _ _ r.spelled in
    let plain = and_parts _ _ parts.1 in
    ap (list_all is_plain_table) r.meant ∙ (meant_plain r.version r.written ∙ plain.0)
