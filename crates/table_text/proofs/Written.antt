-- Loops that write, and what all their turns write.
use Rattle.std.proofs.Common.{◌≡◌, ℕ, zero, suc, ◌+◌, ◌≤◌, true, List, [], ◌∷◌, ◌++◌, length, get_or, take, map, refl, sym, ap, subst, ◌∙◌, append_assoc, append-nil, slice_get, arith}
use Rattle.std.specs.Prelude.{unwrap_or}
use Rattle.std.specs.Cmp.{second_so}
use Rattle.std.specs.List.{flat_map, list_all}
use Rattle.std.proofs.Math.Numerals.{add-one}
use Rattle.std.proofs.Math.Seq.{take-length}
use Rattle.std.proofs.lemmas.Grind.{flat_map-append}
use Rattle.std.proofs.lemmas.List.{take_more, map-append, length-take-le, length-map}
use Rattle.std.proofs.lemmas.Option.{unwrap_or-slice_get}
use Rattle.table_meaning.specs.declared.cell.Cell.{Cell}
use Rattle.table_meaning.specs.declared.cell.Cell.TheVariants.{Null}
use Rattle.table_meaning.specs.CellText.{cell_text, ended, row_line, tabbed, after_tab}
use Rattle.table_text_meaning.specs.TableText.{table_lines, table_text, text_of_lines, head_line}
use Rattle.table_text_meaning.specs.declared.version.Version.TheVariants.{Second}
use Rattle.table_text_meaning.specs.Versions.{version_line}
use Rattle.table_meaning.specs.TableLaws.{is_row-length, list_all-get}
use Rattle.table_meaning.specs.Tables.{NamedTable, no_table, table_at, row_at, is_row, is_table, is_table_set}
use Rattle.rel_cells.specs.Fronts.{KeepsFront, kept_append, kept_on}
use Rattle.table_text.specs.Writing.{tab_before, row_front, rows_front, table_front, tables_front}

pub row_front_more : (cells : List Cell) (col : ℕ) → row_front cells (col + 1) ≡ row_front cells col ++ (tab_before col ++ cell_text (unwrap_or (slice_get cells col) Null))
unfolding row_front
row_front_more cells col = rw add-one refl

pub rows_front_more : (tables : List NamedTable) (t row : ℕ) → rows_front tables t (row + 1) ≡ rows_front tables t row ++ ended (row_front (row_at tables t row) (length (table_at tables t).schema))
unfolding rows_front
rows_front_more tables t row = rw add-one refl

pub tables_front_more : (tables : List NamedTable) (t : ℕ) → tables_front tables (t + 1) ≡ tables_front tables t ++ table_front tables t
unfolding tables_front
tables_front_more tables t = rw add-one refl

pub row_front_none : (cells : List Cell) → row_front cells 0 ≡ []
unfolding row_front
row_front_none cells = refl

pub rows_front_none : (tables : List NamedTable) (t : ℕ) → rows_front tables t 0 ≡ []
unfolding rows_front
rows_front_none tables t = refl

pub tables_front_none : (tables : List NamedTable) → tables_front tables 0 ≡ []
unfolding tables_front
tables_front_none tables = refl

tabbed-push : (xs : List (List ℕ)) (y : List ℕ) → tabbed (xs ++ y ∷ []) ≡ tabbed xs ++ (tab_before (length xs) ++ y)
tabbed-push [] y = append-nil y
tabbed-push (x ∷ xs) y =
    ap (λ (t : List ℕ). x ++ t) (flat_map-append after_tab xs (y ∷ []) ∙ ap (λ (t : List ℕ). flat_map after_tab xs ++ t) (append-nil (9 ∷ y)))
    ∙ sym (append_assoc x (flat_map after_tab xs) (9 ∷ y))

-- the first cells of a row, joined
row_front-is : (cells : List Cell) (n : ℕ) → n ≤ length cells → row_front cells n ≡ tabbed (map cell_text (take n cells))
unfolding row_front
row_front-is cells zero inside = refl
row_front-is cells (suc n) inside =
    let more : take (suc n) cells ≡ take n cells ++ get_or cells n Null ∷ [] = rw add-one at (take_more cells n Null (omega arith)) in
    let count : length (map cell_text (take n cells)) ≡ n = length-map (take n cells) cell_text ∙ length-take-le n cells (omega arith) in
    ap (λ (t : List ℕ). t ++ (tab_before n ++ cell_text (unwrap_or (slice_get cells n) Null))) (row_front-is cells n (omega arith))
    ∙ ap (λ (x : Cell). tabbed (map cell_text (take n cells)) ++ (tab_before n ++ cell_text x)) (unwrap_or-slice_get cells n Null)
    ∙ ap (λ (k : ℕ). tabbed (map cell_text (take n cells)) ++ (tab_before k ++ cell_text (get_or cells n Null))) (sym count)
    ∙ sym (tabbed-push (map cell_text (take n cells)) (cell_text (get_or cells n Null)))
    ∙ ap tabbed (sym (map-append cell_text (take n cells) (get_or cells n Null ∷ [])) ∙ ap (map cell_text) (sym more))

whole_row : (cells : List Cell) (n : ℕ) → length cells ≡ n → row_front cells n ≡ row_line cells
whole_row cells n is =
    ap (row_front cells) (sym is) ∙ row_front-is cells (length cells) (omega arith) ∙ ap (λ (cs : List Cell). tabbed (map cell_text cs)) (take-length cells)

abbrev row_text : List Cell → List ℕ
row_text cells = ended (row_line cells)

abbrev table_part : NamedTable → List ℕ
table_part t = ended (head_line t.name t.schema) ++ flat_map row_text t.rows

-- the first rows of a table whose rows fit
rows_front-is : (tables : List NamedTable) (t n : ℕ) (table : NamedTable) → table_at tables t ≡ table → is_table table ≡ true → n ≤ length table.rows → rows_front tables t n ≡ flat_map row_text (take n table.rows)
unfolding rows_front
rows_front-is tables t zero table is fits inside = refl
rows_front-is tables t (suc n) table is fits inside =
    let cells : List Cell = get_or table.rows n [] in
    let there : row_at tables t n ≡ cells = ap (λ (x : NamedTable). unwrap_or (slice_get x.rows n) []) is ∙ unwrap_or-slice_get table.rows n [] in
    let row : is_row table.schema cells ≡ true = list_all-get (is_row table.schema) table.rows n [] (second_so _ _ fits) (omega arith) in
    let line : row_front (row_at tables t n) (length (table_at tables t).schema) ≡ row_line cells =
    ap (λ (cs : List Cell). row_front cs (length (table_at tables t).schema)) there
    ∙ whole_row cells (length (table_at tables t).schema) (is_row-length table.schema cells row ∙ ap (λ (x : NamedTable). length x.schema) (sym is)) in
    let more : take (suc n) table.rows ≡ take n table.rows ++ cells ∷ [] = rw add-one at (take_more table.rows n [] (omega arith)) in
    ap (λ (r : List ℕ). r ++ ended (row_front (row_at tables t n) (length (table_at tables t).schema))) (rows_front-is tables t n table is fits (omega arith))
    ∙ ap (λ (l : List ℕ). flat_map row_text (take n table.rows) ++ ended l) line
    ∙ ap (λ (l : List ℕ). flat_map row_text (take n table.rows) ++ l) (sym (append-nil (row_text cells)))
    ∙ sym (flat_map-append row_text (take n table.rows) (cells ∷ [])) ∙ ap (flat_map row_text) (sym more)

tables_front-is : (tables : List NamedTable) (n : ℕ) → list_all is_table tables ≡ true → n ≤ length tables → tables_front tables n ≡ flat_map table_part (take n tables)
unfolding tables_front
tables_front-is tables zero fits inside = refl
tables_front-is tables (suc n) fits inside =
    let table : NamedTable = get_or tables n no_table in
    let is : table_at tables n ≡ table = unwrap_or-slice_get tables n no_table in
    let fit : is_table table ≡ true = list_all-get is_table tables n no_table fits (omega arith) in
    let rows : rows_front tables n (length (table_at tables n).rows) ≡ flat_map row_text table.rows =
    ap (λ (x : NamedTable). rows_front tables n (length x.rows)) is ∙ rows_front-is tables n (length table.rows) table is fit (omega arith) ∙ ap (flat_map row_text) (take-length table.rows) in
    let part : table_front tables n ≡ table_part table =
    ap (λ (r : List ℕ). ended (head_line (table_at tables n).name (table_at tables n).schema) ++ r) rows
    ∙ ap (λ (x : NamedTable). ended (head_line x.name x.schema) ++ flat_map row_text table.rows) is in
    let more : take (suc n) tables ≡ take n tables ++ table ∷ [] = rw add-one at (take_more tables n no_table (omega arith)) in
    ap (λ (r : List ℕ). r ++ table_front tables n) (tables_front-is tables n fits (omega arith))
    ∙ ap (λ (l : List ℕ). flat_map table_part (take n tables) ++ l) (part ∙ sym (append-nil (table_part table)))
    ∙ sym (flat_map-append table_part (take n tables) (table ∷ [])) ∙ ap (flat_map table_part) (sym more)

lines-rows : (rows : List (List Cell)) → text_of_lines (map row_line rows) ≡ flat_map row_text rows
lines-rows [] = refl
lines-rows (cells ∷ rows) = ap (λ (t : List ℕ). row_text cells ++ t) (lines-rows rows)

lines-tables : (tables : List NamedTable) → text_of_lines (flat_map table_lines tables) ≡ flat_map table_part tables
lines-tables [] = refl
lines-tables (t ∷ tables) =
    flat_map-append ended (table_lines t) (flat_map table_lines tables)
    ∙ ap (λ (a : List ℕ). (ended (head_line t.name t.schema) ++ a) ++ text_of_lines (flat_map table_lines tables)) (lines-rows t.rows)
    ∙ ap (λ (a : List ℕ). table_part t ++ a) (lines-tables tables)

-- all tables are written
pub whole_text : (tables : List NamedTable) → is_table_set tables ≡ true → ended (version_line Second) ++ tables_front tables (length tables) ≡ table_text tables
whole_text tables set =
    ap (λ (t : List ℕ). ended (version_line Second) ++ t) (tables_front-is tables (length tables) (second_so _ _ set) (omega arith) ∙ ap (flat_map table_part) (take-length tables) ∙ sym (lines-tables tables))

-- a loop that writes begins with nothing written
pub started : (old now line front : List ℕ) → now ≡ old ++ line → front ≡ [] → (now ≡ old ++ (line ++ front)) × KeepsFront old now
started old now line front is none = (is ∙ ap (λ (t : List ℕ). old ++ t) (sym (ap (λ (t : List ℕ). line ++ t) none ∙ append-nil line)), subst (λ (t : List ℕ). KeepsFront old t) (sym is) (kept_append old line))

-- and goes on with what one turn writes
pub gone_on : (old front more now mid next : List ℕ) → mid ≡ old ++ front → KeepsFront old mid → now ≡ mid ++ more → next ≡ front ++ more → (now ≡ old ++ next) × KeepsFront old now
gone_on old front more now mid next at kept is steps = (
  is ∙ ap (λ (t : List ℕ). t ++ more) at ∙ append_assoc old front more ∙ ap (λ (t : List ℕ). old ++ t) (sym steps),
  kept_on old mid now kept (subst (λ (t : List ℕ). KeepsFront mid t) (sym is) (kept_append mid more)),
)
