-- Rows have a cell for each column; a table under a new name can be added.
use Rattle.std.specs.Prelude.{◌≡◌, ◌⊎◌, ℕ, ◌<◌, Bool, true, false, not, ◌||◌, List, [], ◌∷◌, ◌++◌, map, length, refl}
use Rattle.std.specs.Cmp.{first_so, second_so}
use Rattle.std.specs.List.{list_any, list_all}
use Rattle.std.specs.Str.{bytes_eq}
use Rattle.std.specs.Bool.{one_answer}
use Rattle.std.proofs.Common.{sym, ap, ◌∙◌, get_or, suc, inl, inr}
use Rattle.std.proofs.lemmas.Bool.{cases_Bool, false≢true, not-true}
use Rattle.std.proofs.lemmas.List.Folds.{list_all-append, list_all_at, list_any-append}
use Rattle.std.proofs.lemmas.Slice.Eq.{bytes_eq-Decides}
use Rattle.table_meaning.specs.declared.schema.Column.{Column}
use Rattle.table_meaning.specs.declared.cell.Cell.{Cell}
use Rattle.table_meaning.specs.Schemas.{are_distinct, is_schema}
use Rattle.table_meaning.specs.Tables.{is_row, are_rows, RowTable, NamedTable, named, is_table, table_name, is_table_set, has_table}

pub is_row-length : (columns : List Column) (cells : List Cell) → is_row columns cells ≡ true → length cells ≡ length columns
is_row-length [] [] h = refl
is_row-length [] (cell ∷ cells) h = cc
is_row-length (column ∷ columns) [] h = cc
is_row-length (column ∷ columns) (cell ∷ cells) h = ap suc (is_row-length columns cells (second_so _ _ h))

pub list_all-get : {X : Type 0} (p : X → Bool) (xs : List X) (i : ℕ) (d : X) → list_all p xs ≡ true → i < length xs → p (get_or xs i d) ≡ true
list_all-get p xs i d all inside = by (cases_Bool (p (get_or xs i d)))
  where
    by : (p (get_or xs i d) ≡ true) ⊎ (p (get_or xs i d) ≡ false) → p (get_or xs i d) ≡ true
    by (inl e) = e
    by (inr e) = absurd (false≢true (sym (list_all_at p xs i d inside e) ∙ all))

bytes_eq-turned : (a b : List ℕ) → bytes_eq a b ≡ bytes_eq b a
bytes_eq-turned a b = one_answer (bytes_eq a b) (bytes_eq b a) (bytes_eq-Decides a b) (λ h. sym ((bytes_eq-Decides b a).0 h), λ e. (bytes_eq-Decides b a).1 (sym e))

pub or_left : (x y : Bool) → (x || y) ≡ false → x ≡ false
or_left true y h = h
or_left false y h = refl

pub or_right : (x y : Bool) → (x || y) ≡ false → y ≡ false
or_right true y h = cc
or_right false y h = h

pub are_distinct-push : (names : List (List ℕ)) (name : List ℕ) → are_distinct names ≡ true → list_any (bytes_eq name) names ≡ false → are_distinct (names ++ name ∷ []) ≡ true
are_distinct-push [] name d new = refl
are_distinct-push (other ∷ names) name d new =
    let apart : list_any (bytes_eq other) names ≡ false = not-true _ (first_so _ _ d) in
    let unlike : bytes_eq other name ≡ false = bytes_eq-turned other name ∙ or_left _ _ new in
    let others : are_distinct (names ++ name ∷ []) ≡ true = are_distinct-push names name (second_so _ _ d) (or_right _ _ new) in
    rw (list_any-append (bytes_eq other) names (name ∷ []), apart, unlike, others) refl

map-push : (tables : List NamedTable) (table : NamedTable) → map table_name (tables ++ table ∷ []) ≡ map table_name tables ++ table.name ∷ []
map-push [] table = refl
map-push (other ∷ tables) table = ap (λ (names : List (List ℕ)). other.name ∷ names) (map-push tables table)

pub any_name : (tables : List NamedTable) (name : List ℕ) → list_any (bytes_eq name) (map table_name tables) ≡ has_table tables name
any_name [] name = refl
any_name (table ∷ tables) name = ap (λ b. bytes_eq name table.name || b) (any_name tables name)

-- a table under a new name
pub is_table_set-push : (tables : List NamedTable) (table : NamedTable) → is_table_set tables ≡ true → is_table table ≡ true → has_table tables table.name ≡ false → is_table_set (tables ++ table ∷ []) ≡ true
is_table_set-push tables table set fits new =
    let names : are_distinct (map table_name tables ++ table.name ∷ []) ≡ true =
    are_distinct-push (map table_name tables) table.name (first_so _ _ set) (any_name tables table.name ∙ new) in
    let others : list_all is_table tables ≡ true = second_so (are_distinct (map table_name tables)) _ set in
    rw (map-push tables table, names, list_all-append is_table tables (table ∷ []), others, fits) refl

pub is_table-named : (name : List ℕ) (table : RowTable) → is_schema table.schema ≡ true → are_rows table.schema table.rows ≡ true → is_table (named name table) ≡ true
is_table-named name table schema rows = rw (schema, rows) refl

-- rows under a new name
pub is_table_set-added : (old : List NamedTable) (name : List ℕ) (table : RowTable) (new : List NamedTable) → new ≡ old ++ named name table ∷ []
    → is_table_set old ≡ true → is_schema table.schema ≡ true → are_rows table.schema table.rows ≡ true → not (has_table old name) ≡ true → is_table_set new ≡ true
is_table_set-added old name table new is set schema rows fresh =
    rw is (is_table_set-push old (named name table) set (is_table-named name table schema rows) (not-true _ fresh))

-- a row has a cell for each column
pub row_reaches : (columns : List Column) (rows : List (List Cell)) (i col : ℕ) (cells d : List Cell) → are_rows columns rows ≡ true → i < length rows → col < length columns → cells ≡ get_or rows i d → col < length cells
row_reaches columns rows i col cells d all inside reach is =
    rw (is, is_row-length columns (get_or rows i d) (list_all-get (is_row columns) rows i d all inside)) reach
