-- The lines of tables that can be written, and those of a text that is read.
use Rattle.std.proofs.Common.{◌≡◌, ◌⊎◌, inl, inr, ℕ, true, false, List, [], ◌∷◌, ◌++◌, drop, map, refl, sym, ap, ◌∙◌, append_assoc, append-nil}
use Rattle.std.specs.Prelude.{Option, Some, None, codes, if◌then◌else◌}
use Rattle.std.specs.Cmp.{first_so, second_so}
use Rattle.std.specs.List.{flat_map, list_all}
use Rattle.std.specs.Str.{bytes_eq}
use Rattle.std.proofs.lemmas.Bool.{cases_Bool}
use Rattle.std.proofs.lemmas.List.{take-append-drop}
use Rattle.std.proofs.lemmas.List.Folds.{list_all-append}
use Rattle.std.proofs.lemmas.Option.{same_Some}
use Rattle.std.proofs.lemmas.Slice.Eq.{bytes_eq-Decides}
use Rattle.table_meaning.specs.declared.kind.Kind.{Kind}
use Rattle.table_meaning.specs.declared.kind.Kind.TheVariants as kinds
use Rattle.table_meaning.specs.declared.cell.Cell.{Cell}
use Rattle.table_meaning.specs.declared.schema.Column.{Column}
use Rattle.table_meaning.specs.CellText.{cell_text, row_line, tabbed, after_tab, ended}
use Rattle.table_meaning.specs.Ints.{int_of}
use Rattle.table_meaning.specs.Names.{is_name}
use Rattle.table_meaning.specs.CellText.{is_held_cell}
use Rattle.table_text_meaning.specs.TableText.{is_plain_column, is_plain_table, is_held_table, kind_mark, column_text, head_line, table_lines, tables_lines, text_in, sql_line, lines_of, is_spelled_set, BeginTables, TablesRead}
use Rattle.table_text_meaning.specs.declared.version.Version.{Version}
use Rattle.table_text_meaning.specs.declared.version.Version.TheVariants.{First, Second}
use Rattle.table_text_meaning.specs.Versions.{version_line}
use Rattle.table_meaning.specs.Tables.{NamedTable}
use Rattle.table_text.specs.Reading.{◌>>=◌, before, is_other, is_line, with_row, with_cells, cells_of, cell_of, text_of, fields_of, step}
use Rattle.table_text.proofs.CellLaws.{feed_stops, cell_other, name_other}
use Rattle.table_text.proofs.TextLaws.{bind_some}
use Rattle.table_text.proofs.Cuts.{lines_of-ended}
use Rattle.table_text.proofs.Sound.{fit_of, step_goes}
use Rattle.table_text.proofs.Complete.{run, run-append, tables_run}
use Rattle.table_text.proofs.ReadLaws.{cut_lines}

-- no line feed stands in the lines of tables

tabs_clean : (pieces : List (List ℕ)) → list_all is_line pieces ≡ true → list_all (is_other 10) (flat_map after_tab pieces) ≡ true
tabs_clean [] h = refl
tabs_clean (piece ∷ pieces) h =
    let a : list_all (is_other 10) piece ≡ true = first_so _ _ h in
    let b = tabs_clean pieces (second_so (is_line piece) _ h) in
    list_all-append (is_other 10) piece (flat_map after_tab pieces) ∙ rw (a, b) refl

tabbed_clean : (pieces : List (List ℕ)) → list_all is_line pieces ≡ true → is_line (tabbed pieces) ≡ true
tabbed_clean [] h = refl
tabbed_clean (piece ∷ pieces) h =
    let a : list_all (is_other 10) piece ≡ true = first_so _ _ h in
    let b = tabs_clean pieces (second_so (is_line piece) _ h) in
    list_all-append (is_other 10) piece (flat_map after_tab pieces) ∙ rw (a, b) refl

cells_clean : (cells : List Cell) → list_all is_held_cell cells ≡ true → list_all is_line (map cell_text cells) ≡ true
cells_clean [] h = refl
cells_clean (cell ∷ cells) h =
    let a : is_line (cell_text cell) ≡ true = cell_other 10 feed_stops cell (first_so _ _ h) in
    rw a (cells_clean cells (second_so (is_held_cell cell) _ h))

rows_clean : (rows : List (List Cell)) → list_all (list_all is_held_cell) rows ≡ true → list_all is_line (map row_line rows) ≡ true
rows_clean [] h = refl
rows_clean (row ∷ rows) h =
    let a : is_line (row_line row) ≡ true = tabbed_clean (map cell_text row) (cells_clean row (first_so _ _ h)) in
    rw a (rows_clean rows (second_so (list_all is_held_cell row) _ h))

mark_clean : (kind : Kind) → list_all (is_other 10) (kind_mark kind) ≡ true
mark_clean kinds.Int = refl
mark_clean kinds.Text = refl
mark_clean kinds.Truth = refl

columns_clean : (columns : List Column) → list_all is_plain_column columns ≡ true → list_all is_line (map column_text columns) ≡ true
columns_clean [] h = refl
columns_clean (column ∷ columns) h =
    let plain : is_plain_column column ≡ true = first_so _ _ h in
    let name : list_all (is_other 10) column.name ≡ true = name_other 10 feed_stops column.name (first_so _ _ plain) in
    let mark = mark_clean column.kind in
    let a : is_line (column_text column) ≡ true = list_all-append (is_other 10) column.name (kind_mark column.kind) ∙ rw (name, mark) refl in
    rw a (columns_clean columns (second_so (is_plain_column column) _ h))

head_clean : (name : List ℕ) (columns : List Column) → is_name name ≡ true → list_all is_plain_column columns ≡ true → is_line (head_line name columns) ≡ true
head_clean name columns h k =
    let a : is_line name ≡ true = name_other 10 feed_stops name h in
    let b = columns_clean columns k in
    tabbed_clean (codes "table" ∷ name ∷ map column_text columns) (rw (a, b) refl)

tables_clean : (tables : List NamedTable) → list_all is_plain_table tables ≡ true → list_all is_held_table tables ≡ true → list_all is_line (flat_map table_lines tables) ≡ true
tables_clean [] h k = refl
tables_clean (t ∷ tables) h k =
    let plain : is_plain_table t ≡ true = first_so _ _ h in
    let head = head_clean t.name t.schema (first_so _ _ plain) (second_so (is_name t.name) _ plain) in
    let rows = rows_clean t.rows (first_so _ _ k) in
    let table : list_all is_line (table_lines t) ≡ true = rw (head, rows) refl in
    let others = tables_clean tables (second_so (is_plain_table t) _ h) (second_so (is_held_table t) _ k) in
    list_all-append is_line (table_lines t) (flat_map table_lines tables) ∙ rw (table, others) refl

pub lines_clean : (version : Version) (tables : List NamedTable) → is_spelled_set tables ≡ true → list_all is_line (tables_lines version tables) ≡ true
lines_clean First tables set = let f = fit_of tables set in tables_clean tables f.plain f.held
lines_clean Second tables set = let f = fit_of tables set in tables_clean tables f.plain f.held

-- no tables go on with the line that ends them

cell_stops : (kind : Kind) → cell_of kind sql_line ≡ None
unfolding cell_of text_of int_of
cell_stops kinds.Int = refl
cell_stops kinds.Text = refl
cell_stops kinds.Truth = refl

cells_stop : (columns : List Column) → cells_of columns (fields_of sql_line) ≡ None
cells_stop [] = refl
cells_stop (column ∷ columns) = ap (λ o. o >>= (λ cell. before (cell ∷ []) (cells_of columns []))) (cell_stops column.kind)

row_stops : (tables : List NamedTable) → with_row tables sql_line ≡ None
row_stops [] = refl
row_stops (t ∷ []) = ap (λ o. with_cells t o >>= (λ u. Some (u ∷ []))) (cells_stop t.schema)
row_stops (t ∷ u ∷ tables) = ap (before (t ∷ [])) (row_stops (u ∷ tables))

pub sql_stops : (tables : List NamedTable) → step tables sql_line ≡ None
sql_stops tables = row_stops tables

pub never_sql : (tables new : List NamedTable) (front back : List (List ℕ)) → run tables (front ++ sql_line ∷ back) ≡ Some new → ⊥
never_sql tables new front back h =
    let x = bind_some (run tables front) (λ t. run t (sql_line ∷ back)) new (sym (run-append tables front (sql_line ∷ back)) ∙ h) in
    let none : None ≡ Some new = sym (ap (λ o. o >>= (λ t. run t back)) (sql_stops x.0)) ∙ x.2 in
    cc

-- lines that go on with tables are the next of their lines
pub front_goes : (tables new : List NamedTable) (lines : List (List ℕ)) → is_spelled_set tables ≡ true → run tables lines ≡ Some new → (is_spelled_set new ≡ true) × (flat_map table_lines new ≡ flat_map table_lines tables ++ lines)
front_goes tables new [] set h =
    let same : tables ≡ new = same_Some tables new h in
    (ap is_spelled_set (sym same) ∙ set, ap (flat_map table_lines) (sym same) ∙ sym (append-nil (flat_map table_lines tables)))
front_goes tables new (line ∷ lines) set h =
    let x = bind_some (step tables line) (λ t. run t lines) new h in
    let g = step_goes tables x.0 line set x.1 in
    let r = front_goes x.0 new lines g.0 x.2 in
    (r.0, r.1 ∙ ap (λ (ls : List (List ℕ)). ls ++ lines) g.1 ∙ append_assoc (flat_map table_lines tables) (line ∷ []) lines)

abbrev tail_of : List (List ℕ) → List (List ℕ)
tail_of [] = []
tail_of (line ∷ lines) = lines

abbrev top_of : List (List ℕ) → List ℕ
top_of [] = []
top_of (line ∷ lines) = line

-- the first lines of tables are those of tables
pub begins_front : (version : Version) (tables : List NamedTable) (front back : List (List ℕ)) → is_spelled_set tables ≡ true → tables_lines version tables ≡ front ++ back → BeginTables front
begins_front version tables [] back set e = inl refl
begins_front version tables (line ∷ front) back set e =
    let whole : run [] (front ++ back) ≡ Some tables = ap (run []) (sym (ap tail_of e)) ∙ tables_run [] tables set in
    let x = bind_some (run [] front) (λ t. run t back) tables (sym (run-append [] front back) ∙ whole) in
    let g = front_goes [] x.0 front refl x.1 in
    inr (version, x.0, g.0, ap (λ (l : List ℕ). l ∷ front) (sym (ap top_of e)) ∙ ap (λ (ls : List (List ℕ)). version_line version ∷ ls) (sym g.1))

-- the lines of a text that is read
pub read_lines : (bytes : List ℕ) (tables : List NamedTable) (at : ℕ) (r : TablesRead bytes tables at) → lines_of bytes ≡ tables_lines r.version r.written ++ sql_line ∷ lines_of (drop at bytes)
read_lines bytes tables at r =
    let rest : List ℕ = drop at bytes in
    let whole : bytes ≡ text_in r.version r.written ++ (ended sql_line ++ rest) =
    sym (take-append-drop at bytes) ∙ ap (λ (z : List ℕ). z ++ rest) r.text ∙ append_assoc (text_in r.version r.written) (ended sql_line) rest in
    ap lines_of whole ∙ cut_lines (tables_lines r.version r.written) (ended sql_line ++ rest) (lines_clean r.version r.written r.spelled)
    ∙ ap (λ (ls : List (List ℕ)). tables_lines r.version r.written ++ ls) (lines_of-ended sql_line rest refl)

-- tables up to the line that ends them
abbrev pub walk : List NamedTable → List (List ℕ) → Option (List NamedTable)
walk tables [] = None
walk tables (line ∷ lines) = if bytes_eq line sql_line then Some tables else (step tables line >>= (λ next. walk next lines))

pub walk_whole : (tables new : List NamedTable) (lines back : List (List ℕ)) → run tables lines ≡ Some new → walk tables (lines ++ sql_line ∷ back) ≡ Some new
walk_whole tables new [] back h = h
walk_whole tables new (line ∷ lines) back h =
    let x = bind_some (step tables line) (λ t. run t lines) new h in
    by x.0 x.1 (walk_whole x.0 new lines back x.2) (cases_Bool (bytes_eq line sql_line))
  where
    by : (next : List NamedTable) → step tables line ≡ Some next → walk next (lines ++ sql_line ∷ back) ≡ Some new → (bytes_eq line sql_line ≡ true) ⊎ (bytes_eq line sql_line ≡ false) → walk tables (line ∷ (lines ++ sql_line ∷ back)) ≡ Some new
    by next goes later (inl e) =
        let none : None ≡ Some next = sym (sql_stops tables) ∙ ap (step tables) (sym ((bytes_eq-Decides line sql_line).0 e)) ∙ goes in
        cc
    by next goes later (inr e) = rw (e, goes) later
