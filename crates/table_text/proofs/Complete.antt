-- The lines of tables are read as these tables: by steps, and so as no others.
use Rattle.std.proofs.Common.{◌≡◌, ◌⊎◌, inl, inr, ℕ, true, false, not, ◌&&◌, cond, eqb, leb, List, [], ◌∷◌, ◌++◌, take, drop, map, refl, sym, ap, ◌∙◌, append_assoc, append-nil, arith}
use Rattle.std.specs.Prelude.{Option, Some, None, codes}
use Rattle.std.specs.Cmp.{first_so, second_so}
use Rattle.std.specs.List.{flat_map, list_all}
use Rattle.std.proofs.lemmas.Bool.{cases_Bool, eqb-true, leb-true, false≢true, not-true}
use Rattle.std.proofs.lemmas.List.Folds.{list_all-append}
use Rattle.std.proofs.lemmas.Slice.Eq.{bytes_eq-Decides}
use Rattle.rdf_meaning.specs.Characters.{is_digit}
use Rattle.rdf_meaning.specs.Spelling.{spelled_text_byte}
use Rattle.table_meaning.specs.declared.cell.Cell.{Cell}
use Rattle.table_meaning.specs.declared.cell.Cell.TheVariants.{Null, Int, Text, Truth}
use Rattle.table_meaning.specs.declared.schema.Column.{Column}
use Rattle.table_meaning.specs.CellText.{cell_text, row_line, tabbed, after_tab}
use Rattle.table_meaning.specs.Ints.{int_text, is_int_form, is_digits}
use Rattle.table_meaning.specs.IntLaws.{int_of-form, int_of-spelled}
use Rattle.table_meaning.specs.Names.{is_name}
use Rattle.table_meaning.specs.Schemas.{is_schema}
use Rattle.table_meaning.specs.CellText.{is_held_cell}
use Rattle.table_text_meaning.specs.TableText.{is_plain_column, is_plain_table, is_held_table, column_text, head_line, table_lines, is_spelled_set}
use Rattle.table_meaning.specs.Tables.{NamedTable, is_row, are_rows, has_table}
use Rattle.table_text.specs.Reading.{◌>>=◌, before, with_head, with_row, head_of, cells_of, fields_of, begins_table, step}
use Rattle.table_text.proofs.TextLaws.{bind_some}
use Rattle.table_text.proofs.RowLaws.{row-spelled}
use Rattle.table_text.proofs.HeadLaws.{head_of-spelled}
use Rattle.table_text.proofs.StepLaws.{table_within}
use Rattle.table_text.proofs.Sound.{fit_of}

-- the tables after further lines
abbrev pub run : List NamedTable → List (List ℕ) → Option (List NamedTable)
run tables [] = Some tables
run tables (line ∷ lines) = step tables line >>= (λ next. run next lines)

pub run-append : (tables : List NamedTable) (xs ys : List (List ℕ)) → run tables (xs ++ ys) ≡ (run tables xs >>= (λ next. run next ys))
run-append tables [] ys = refl
run-append tables (x ∷ xs) ys = by (step tables x) (λ t. run-append t xs ys)
  where
    by : (next : Option (List NamedTable)) → ((t : List NamedTable) → run t (xs ++ ys) ≡ (run t xs >>= (λ u. run u ys))) → (next >>= (λ t. run t (xs ++ ys))) ≡ ((next >>= (λ t. run t xs)) >>= (λ t. run t ys))
    by None ih = refl
    by (Some t) ih = ih t

abbrev first : List ℕ → ℕ
first [] = 0
first (x ∷ xs) = x

-- a byte that begins no head
no_head : (b : ℕ) (bs : List ℕ) → (b ≡ 116 → ⊥) → begins_table (b ∷ bs) ≡ false
no_head b bs other = by (cases_Bool (begins_table (b ∷ bs)))
  where
    by : (begins_table (b ∷ bs) ≡ true) ⊎ (begins_table (b ∷ bs) ≡ false) → begins_table (b ∷ bs) ≡ false
    by (inl e) = absurd (other (ap first ((bytes_eq-Decides (take 6 (b ∷ bs)) (codes "table" ++ 9 ∷ [])).0 e)))
    by (inr e) = e

int_begins : (text rest : List ℕ) → is_int_form text ≡ true → begins_table (text ++ rest) ≡ false
int_begins [] rest h = absurd (false≢true h)
int_begins (b ∷ bs) rest h = by (cases_Bool (eqb b 45))
  where
    by : (eqb b 45 ≡ true) ⊎ (eqb b 45 ≡ false) → begins_table (b ∷ (bs ++ rest)) ≡ false
    by (inl e) = no_head b (bs ++ rest) (λ t. omega (arith, eqb-true b 45 e))
    by (inr e) =
        let form : is_digits (b ∷ bs) ≡ true = rw e at h in
        let digit : is_digit b ≡ true = first_so _ _ form in
        no_head b (bs ++ rest) (λ t. omega (arith, leb-true b 57 (second_so (leb 48 b) _ digit)))

cell_begins : (cell : Cell) (rest : List ℕ) → is_held_cell cell ≡ true → begins_table (cell_text cell ++ rest) ≡ false
cell_begins Null rest held = no_head 46 rest (λ e. omega arith)
cell_begins (Int z) rest held = int_begins (int_text z) rest (int_of-form (int_text z) z (int_of-spelled (int_text z) z (refl, held)))
cell_begins (Text t) rest held = no_head 34 ((flat_map spelled_text_byte t ++ 34 ∷ []) ++ rest) (λ e. omega arith)
cell_begins (Truth true) rest held = no_head 84 rest (λ e. omega arith)
cell_begins (Truth false) rest held = no_head 70 rest (λ e. omega arith)

row_begins : (columns : List Column) (cells : List Cell) → is_schema columns ≡ true → is_row columns cells ≡ true → list_all is_held_cell cells ≡ true → begins_table (row_line cells) ≡ false
row_begins [] cells schema row held = absurd (false≢true schema)
row_begins (column ∷ columns) [] schema row held = cc
row_begins (column ∷ columns) (cell ∷ cells) schema row held = cell_begins cell (flat_map after_tab (map cell_text cells)) (first_so _ _ held)

-- the table with these rows
abbrev pub with_rows : NamedTable → List (List Cell) → NamedTable
with_rows t rows = record { name = t.name; schema = t.schema; rows = rows }

row_read : (columns : List Column) (cells : List Cell) → is_schema columns ≡ true → is_row columns cells ≡ true → list_all is_held_cell cells ≡ true → list_all is_plain_column columns ≡ true
    → cells_of columns (fields_of (row_line cells)) ≡ Some cells
row_read [] cells schema row held plain = absurd (false≢true schema)
row_read (column ∷ columns) cells schema row held plain = row-spelled column columns cells row held plain

last_row : (done : List NamedTable) (t : NamedTable) (line : List ℕ) (cells : List Cell) → cells_of t.schema (fields_of line) ≡ Some cells
    → with_row (done ++ t ∷ []) line ≡ Some (done ++ with_rows t (t.rows ++ cells ∷ []) ∷ [])
last_row [] t line cells read = rw read refl
last_row (u ∷ []) t line cells read = rw read refl
last_row (u ∷ v ∷ done) t line cells read = ap (before (u ∷ [])) (last_row (v ∷ done) t line cells read)

row_goes_on : (done : List NamedTable) (t : NamedTable) (cells : List Cell) → is_schema t.schema ≡ true → is_row t.schema cells ≡ true → list_all is_held_cell cells ≡ true → list_all is_plain_column t.schema ≡ true
    → step (done ++ t ∷ []) (row_line cells) ≡ Some (done ++ with_rows t (t.rows ++ cells ∷ []) ∷ [])
row_goes_on done t cells schema row held plain =
    ap (λ q. cond q (with_head (done ++ t ∷ []) (head_of (drop 6 (row_line cells)))) (with_row (done ++ t ∷ []) (row_line cells))) (row_begins t.schema cells schema row held)
    ∙ last_row done t (row_line cells) cells (row_read t.schema cells schema row held plain)

rows_run : (done : List NamedTable) (t : NamedTable) (rows : List (List Cell)) → is_schema t.schema ≡ true → list_all is_plain_column t.schema ≡ true → are_rows t.schema rows ≡ true → list_all (list_all is_held_cell) rows ≡ true
    → run (done ++ t ∷ []) (map row_line rows) ≡ Some (done ++ with_rows t (t.rows ++ rows) ∷ [])
rows_run done t [] schema plain fits held = ap (λ (rs : List (List Cell)). Some (done ++ with_rows t rs ∷ [])) (sym (append-nil t.rows))
rows_run done t (cells ∷ rows) schema plain fits held =
    ap (λ o. o >>= (λ next. run next (map row_line rows))) (row_goes_on done t cells schema (first_so _ _ fits) (first_so _ _ held) plain)
    ∙ rows_run done (with_rows t (t.rows ++ cells ∷ [])) rows schema plain (second_so (is_row t.schema cells) _ fits) (second_so (list_all is_held_cell cells) _ held)
    ∙ ap (λ (rs : List (List Cell)). Some (done ++ with_rows t rs ∷ [])) (append_assoc t.rows (cells ∷ []) rows)

head_goes_on : (done : List NamedTable) (name : List ℕ) (columns : List Column) → is_name name ≡ true → is_schema columns ≡ true → list_all is_plain_column columns ≡ true → not (has_table done name) ≡ true
    → step done (head_line name columns) ≡ Some (done ++ record { name = name; schema = columns; rows = [] } ∷ [])
head_goes_on done name columns named schema plain new =
    let read : head_of (tabbed (name ∷ map column_text columns)) ≡ Some (name, columns) = head_of-spelled name columns named schema plain in
    let fresh : has_table done name ≡ false = not-true _ new in
    ap (with_head done) read ∙ rw fresh refl

-- what holds of one table of a spelled set
part_plain : (done more : List NamedTable) (t : NamedTable) → is_spelled_set (done ++ t ∷ more) ≡ true → (is_plain_table t ≡ true) × (is_held_table t ≡ true)
part_plain done more t set =
    let f = fit_of (done ++ t ∷ more) set in
    let plain : (list_all is_plain_table done && (is_plain_table t && list_all is_plain_table more)) ≡ true = sym (list_all-append is_plain_table done (t ∷ more)) ∙ f.plain in
    let held : (list_all is_held_table done && (is_held_table t && list_all is_held_table more)) ≡ true = sym (list_all-append is_held_table done (t ∷ more)) ∙ f.held in
    (first_so _ _ (second_so (list_all is_plain_table done) _ plain), first_so _ _ (second_so (list_all is_held_table done) _ held))

table_run : (done more : List NamedTable) (t : NamedTable) → is_spelled_set (done ++ t ∷ more) ≡ true → run done (table_lines t) ≡ Some (done ++ t ∷ [])
table_run done more t set =
    let within = table_within done more t (done ++ t ∷ more) refl (first_so _ _ set) in
    let part = part_plain done more t set in
    let schema : is_schema t.schema ≡ true = first_so _ _ within.1 in
    let plain : list_all is_plain_column t.schema ≡ true = second_so (is_name t.name) _ part.0 in
    ap (λ o. o >>= (λ next. run next (map row_line t.rows))) (head_goes_on done t.name t.schema (first_so _ _ part.0) schema plain within.0)
    ∙ rows_run done (with_rows t []) t.rows schema plain (second_so (is_schema t.schema) _ within.1) part.1

pub tables_run : (done more : List NamedTable) → is_spelled_set (done ++ more) ≡ true → run done (flat_map table_lines more) ≡ Some (done ++ more)
tables_run done [] set = ap (λ (ts : List NamedTable). Some ts) (sym (append-nil done))
tables_run done (t ∷ more) set =
    let again : is_spelled_set ((done ++ t ∷ []) ++ more) ≡ true = ap is_spelled_set (append_assoc done (t ∷ []) more) ∙ set in
    run-append done (table_lines t) (flat_map table_lines more)
    ∙ ap (λ o. o >>= (λ next. run next (flat_map table_lines more))) (table_run done more t set)
    ∙ tables_run (done ++ t ∷ []) more again ∙ ap (λ (ts : List NamedTable). Some ts) (append_assoc done (t ∷ []) more)

-- a line that goes on with tables as a further one does is read so
pub step_complete : (tables new : List NamedTable) (line : List ℕ) → is_spelled_set tables ≡ true → is_spelled_set new ≡ true → flat_map table_lines new ≡ flat_map table_lines tables ++ line ∷ [] → step tables line ≡ Some new
step_complete tables new line set set' lines =
    let whole : run [] (flat_map table_lines new) ≡ Some new = tables_run [] new set' in
    let front : run [] (flat_map table_lines tables) ≡ Some tables = tables_run [] tables set in
    let both : (step tables line >>= (λ t. Some t)) ≡ Some new =
    ap (λ o. o >>= (λ t. run t (line ∷ []))) (sym front) ∙ sym (run-append [] (flat_map table_lines tables) (line ∷ [])) ∙ ap (run []) (sym lines) ∙ whole in
    let x = bind_some (step tables line) (λ t. Some t) new both in
    x.1 ∙ x.2

-- one list of tables has these lines
pub one_reading : (a b : List NamedTable) → is_spelled_set a ≡ true → is_spelled_set b ≡ true → flat_map table_lines a ≡ flat_map table_lines b → Some a ≡ Some b
one_reading a b set set' same = sym (tables_run [] a set) ∙ ap (run []) same ∙ tables_run [] b set'
