-- Cells past the rows or the columns of a table.
use Rattle.std.specs.Prelude.{◌≡◌, ℕ, ◌≤◌, true, List, [], ◌∷◌, length, unwrap_or, IsTrue, refl}
use Rattle.std.specs.Cmp.{first_so, second_so}
use Rattle.std.specs.List.{list_all}
use Rattle.std.proofs.Common.{zero, suc, ap, subst, sym, ◌∙◌}
use Rattle.std.proofs.lemmas.Option.{slice_get_past}
use Rattle.table_meaning.specs.declared.cell.Cell.{Cell}
use Rattle.table_meaning.specs.declared.cell.Cell.TheVariants.{Null}
use Rattle.table_meaning.specs.declared.schema.Column.{Column}
use Rattle.table_meaning.specs.TableLaws.{is_row-length}
use Rattle.table_meaning.specs.Tables.{NamedTable, table_at, is_table, is_table_set, are_rows}
use Rattle.sql_bind_meaning.specs.Values.{cell_in, row_in}
use Rattle.sql_bind_meaning.specs.Sources.{relation_rows}
use Rattle.sql_bind_meaning.specs.Rows.{table_relations}

-- a relation of tables is a table's rows
pub table_rows : (tables : List NamedTable) (t : ℕ) → relation_rows (table_relations tables) t ≡ (table_at tables t).rows
table_rows [] t = refl
table_rows (table ∷ tables) zero = refl
table_rows (table ∷ tables) (suc t) = table_rows tables t

pub past_rows : (tables : List NamedTable) (t row column : ℕ) → length (table_at tables t).rows ≤ row → cell_in (row_in (relation_rows (table_relations tables) t) row) column ≡ Null
past_rows tables t row column h =
    ap (λ (rows : List (List Cell)). cell_in (row_in rows row) column) (table_rows tables t)
    ∙ ap (λ o. cell_in (unwrap_or o []) column) (slice_get_past (table_at tables t).rows row h)

-- a row has no more cells than there are columns
narrow : (columns : List Column) (rows : List (List Cell)) (row column : ℕ) → are_rows columns rows ≡ true → length columns ≤ column → cell_in (row_in rows row) column ≡ Null
narrow columns [] row column h le = refl
narrow columns (cells ∷ rows) zero column h le =
    let inside : length cells ≤ column = subst (λ n. n ≤ column) (sym (is_row-length columns cells (first_so _ _ h))) le in
    ap (λ o. unwrap_or o Null) (slice_get_past cells column inside)
narrow columns (cells ∷ rows) (suc row) column h le = narrow columns rows row column (second_so _ _ h) le

narrow_in : (tables : List NamedTable) (t row column : ℕ) → list_all is_table tables ≡ true → length (table_at tables t).schema ≤ column → cell_in (row_in (table_at tables t).rows row) column ≡ Null
narrow_in [] t row column h le = refl
narrow_in (table ∷ tables) zero row column h le = narrow table.schema table.rows row column (second_so _ _ (first_so _ _ h)) le
narrow_in (table ∷ tables) (suc t) row column h le = narrow_in tables t row column (second_so _ _ h) le

pub past_columns : (tables : List NamedTable) (t row column : ℕ) → IsTrue (is_table_set tables) → length (table_at tables t).schema ≤ column → cell_in (row_in (relation_rows (table_relations tables) t) row) column ≡ Null
past_columns tables t row column set le =
    ap (λ (rows : List (List Cell)). cell_in (row_in rows row) column) (table_rows tables t)
    ∙ narrow_in tables t row column (second_so _ _ set) le
