-- Loops that see cells which a text can spell, and what all their turns say of the tables.
use Rattle.std.proofs.Common.{◌≡◌, ℕ, zero, suc, ◌+◌, Bool, true, List, [], ◌∷◌, length, get_or, take, refl, sym, ap, subst, ◌∙◌, slice_get}
use Rattle.std.specs.Prelude.{unwrap_or}
use Rattle.std.specs.Cmp.{first_so, second_so}
use Rattle.std.specs.List.{list_all}
use Rattle.std.proofs.Math.Numerals.{add-one}
use Rattle.std.proofs.Math.Seq.{take-length}
use Rattle.std.proofs.lemmas.Option.{unwrap_or-slice_get}
use Rattle.table_meaning.specs.declared.cell.Cell.{Cell}
use Rattle.table_meaning.specs.declared.schema.Column.{Column}
use Rattle.table_meaning.specs.declared.cell.Cell.TheVariants.{Null}
use Rattle.table_meaning.specs.CellText.{is_held_cell}
use Rattle.table_text_meaning.specs.TableText.{is_plain_table, is_held_table, is_spelled_set}
use Rattle.table_meaning.specs.Schemas.{is_schema}
use Rattle.table_meaning.specs.TableLaws.{is_row-length}
use Rattle.table_meaning.specs.Tables.{NamedTable, no_table, table_at, row_at, is_row, is_table, is_table_set}
use Rattle.table_text.specs.Writing.{cells_held, rows_held, tables_held}

-- one item more
all_more : {X : Type 0} (p : X → Bool) (xs : List X) (n : ℕ) (d : X) → list_all p (take n xs) ≡ true → p (get_or xs n d) ≡ true → list_all p (take (suc n) xs) ≡ true
all_more p [] zero d h k = refl
all_more p [] (suc n) d h k = refl
all_more p (x ∷ xs) zero d h k = rw k refl
all_more p (x ∷ xs) (suc n) d h k = rw (first_so (p x) _ h) (all_more p xs n d (second_so (p x) _ h) k)

seen_more : {X : Type 0} (p : X → Bool) (xs : List X) (n : ℕ) (d : X) → list_all p (take n xs) ≡ true → p (unwrap_or (slice_get xs n) d) ≡ true → list_all p (take (n + 1) xs) ≡ true
seen_more p xs n d h k = rw add-one (all_more p xs n d h (subst (λ x. p x ≡ true) (unwrap_or-slice_get xs n d) k))

pub cells_held_none : (cells : List Cell) → cells_held cells 0 ≡ true
cells_held_none cells = refl

pub cells_held_more : (cells : List Cell) (n : ℕ) → cells_held cells n ≡ true → is_held_cell (unwrap_or (slice_get cells n) Null) ≡ true → cells_held cells (n + 1) ≡ true
cells_held_more cells n h k = seen_more is_held_cell cells n Null h k

pub rows_held_none : (tables : List NamedTable) (t : ℕ) → rows_held tables t 0 ≡ true
rows_held_none tables t = refl

pub rows_held_more : (tables : List NamedTable) (t row : ℕ) → rows_held tables t row ≡ true → cells_held (row_at tables t row) (length (table_at tables t).schema) ≡ true → rows_held tables t (row + 1) ≡ true
rows_held_more tables t row h k = seen_more (λ cells. cells_held cells (length (table_at tables t).schema)) (table_at tables t).rows row [] h k

pub tables_held_none : (tables : List NamedTable) → tables_held tables 0 ≡ true
tables_held_none tables = refl

pub tables_held_more : (tables : List NamedTable) (t : ℕ) → tables_held tables t ≡ true → rows_held tables t (length (table_at tables t).rows) ≡ true → tables_held tables (t + 1) ≡ true
tables_held_more tables t h k =
    seen_more (λ table. list_all (λ cells. cells_held cells (length table.schema)) table.rows) tables t no_table h
    (subst (λ (rows : List (List Cell)). list_all (λ cells. cells_held cells (length (table_at tables t).schema)) rows ≡ true) (take-length (table_at tables t).rows) k)

-- all cells of a row that fits its schema
held_row : (cells : List Cell) (n : ℕ) → length cells ≡ n → cells_held cells n ≡ true → list_all is_held_cell cells ≡ true
held_row cells n e h = subst (λ (cs : List Cell). list_all is_held_cell cs ≡ true) (ap (λ k. take k cells) (sym e) ∙ take-length cells) h

held_rows : (schema : List Column) (rows : List (List Cell)) → list_all (is_row schema) rows ≡ true → list_all (λ cells. cells_held cells (length schema)) rows ≡ true → list_all (list_all is_held_cell) rows ≡ true
held_rows schema [] fits h = refl
held_rows schema (cells ∷ rows) fits h =
    rw (held_row cells (length schema) (is_row-length schema cells (first_so _ _ fits)) (first_so (cells_held cells (length schema)) _ h), held_rows schema rows (second_so (is_row schema cells) _ fits) (second_so (cells_held cells (length schema)) _ h)) refl

abbrev has_held : NamedTable → Bool
has_held table = list_all (λ cells. cells_held cells (length table.schema)) table.rows

held_tables : (tables : List NamedTable) → list_all is_table tables ≡ true → list_all has_held tables ≡ true → list_all is_held_table tables ≡ true
held_tables [] fits h = refl
held_tables (table ∷ tables) fits h =
    let rows : list_all (is_row table.schema) table.rows ≡ true = second_so (is_schema table.schema) _ (first_so (is_table table) _ fits) in
    let one : is_held_table table ≡ true = held_rows table.schema table.rows rows (first_so (has_held table) _ h) in
    rw (one, held_tables tables (second_so (is_table table) _ fits) (second_so (has_held table) _ h)) refl

-- all tables of a set
pub all_held : (tables : List NamedTable) → is_table_set tables ≡ true → tables_held tables (length tables) ≡ true → list_all is_held_table tables ≡ true
all_held tables set h = held_tables tables (second_so _ _ set) (subst (λ (ts : List NamedTable). list_all has_held ts ≡ true) (take-length tables) h)

pub written_set : (tables : List NamedTable) → is_table_set tables ≡ true → list_all is_plain_table tables ≡ true → list_all is_held_table tables ≡ true → is_spelled_set tables ≡ true
written_set tables set plain held = rw (set, plain, held) refl
