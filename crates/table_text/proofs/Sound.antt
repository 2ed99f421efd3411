-- A line that goes on with tables is the next of their lines.
use Rattle.std.proofs.Common.{◌≡◌, ◌⊎◌, inl, inr, ℕ, Bool, true, false, cond, List, [], ◌∷◌, ◌++◌, take, drop, map, refl, sym, ap, subst, ◌∙◌, append_assoc, append-nil}
use Rattle.std.specs.Prelude.{Option, Some, None, codes}
use Rattle.std.specs.Cmp.{first_so, second_so}
use Rattle.std.specs.List.{flat_map, list_all}
use Rattle.std.proofs.lemmas.Bool.{cases_Bool}
use Rattle.std.proofs.lemmas.Grind.{flat_map-append}
use Rattle.std.proofs.lemmas.List.{take-append-drop, map-append}
use Rattle.std.proofs.lemmas.List.Folds.{list_all-append}
use Rattle.std.proofs.lemmas.Slice.Eq.{bytes_eq-Decides}
use Rattle.table_meaning.specs.declared.cell.Cell.{Cell}
use Rattle.table_meaning.specs.declared.schema.Column.{Column}
use Rattle.table_meaning.specs.CellText.{row_line, tabbed}
use Rattle.table_meaning.specs.Schemas.{is_schema, are_distinct}
use Rattle.table_meaning.specs.CellText.{is_held_cell}
use Rattle.table_text_meaning.specs.TableText.{is_plain_table, is_held_table, column_text, head_line, table_lines, is_spelled_set}
use Rattle.table_meaning.specs.TableLaws.{is_table_set-push}
use Rattle.table_meaning.specs.Tables.{NamedTable, is_row, are_rows, is_table, is_table_set, table_name, has_table}
use Rattle.table_text.specs.Reading.{with_head, with_cells, with_row, head_of, cells_of, fields_of, begins_table, step}
use Rattle.table_text.proofs.TextLaws.{chosen, bind_some, before_some, map_some}
use Rattle.table_text.proofs.RowLaws.{row-spells}
use Rattle.table_text.proofs.HeadLaws.{head_of-spells}

-- what holds of each table of a spelled set
pub record AreFit (tables : List NamedTable) : Type 0 where
  pub fit : list_all is_table tables ≡ true
  pub plain : list_all is_plain_table tables ≡ true
  pub held : list_all is_held_table tables ≡ true

pub fit_of : (tables : List NamedTable) → is_spelled_set tables ≡ true → AreFit tables
fit_of tables set =
    let both = second_so (is_table_set tables) _ set in
    record { fit = second_so (are_distinct (map table_name tables)) _ (first_so _ _ set); plain = first_so _ _ both; held = second_so (list_all is_plain_table tables) _ both }

pub spelled_of : (tables : List NamedTable) → is_table_set tables ≡ true → AreFit tables → is_spelled_set tables ≡ true
spelled_of tables set fit = let plain = fit.plain in let held = fit.held in rw (set, plain, held) refl

-- a further row
pub record RowGoes (tables new : List NamedTable) (line : List ℕ) : Type 0 where
  pub names : map table_name new ≡ map table_name tables
  pub fit : AreFit new
  pub lines : flat_map table_lines new ≡ flat_map table_lines tables ++ line ∷ []

rest_fit : (t : NamedTable) (tables : List NamedTable) → AreFit (t ∷ tables) → AreFit tables
rest_fit t tables f = record { fit = second_so (is_table t) _ f.fit; plain = second_so (is_plain_table t) _ f.plain; held = second_so (is_held_table t) _ f.held }

onto_fit : (t : NamedTable) (old tables : List NamedTable) → AreFit (t ∷ old) → AreFit tables → AreFit (t ∷ tables)
onto_fit t old tables f g =
    let a : is_table t ≡ true = first_so _ _ f.fit in
    let b : is_plain_table t ≡ true = first_so _ _ f.plain in
    let d : is_held_table t ≡ true = first_so _ _ f.held in
    record { fit = rw a g.fit; plain = rw b g.plain; held = rw d g.held }

last_goes : (t : NamedTable) (line : List ℕ) (cells : List Cell) → AreFit (t ∷ []) → cells_of t.schema (fields_of line) ≡ Some cells → RowGoes (t ∷ []) (record { name = t.name; schema = t.schema; rows = t.rows ++ cells ∷ [] } ∷ []) line
last_goes t line cells f read =
    let s = row-spells t.schema line cells read in
    let fits : is_table t ≡ true = first_so _ _ f.fit in
    let plain : is_plain_table t ≡ true = first_so _ _ f.plain in
    let held : is_held_table t ≡ true = first_so _ _ f.held in
    let schema : is_schema t.schema ≡ true = first_so _ _ fits in
    let old_rows : are_rows t.schema t.rows ≡ true = second_so (is_schema t.schema) _ fits in
    let row = s.1 in
    let cells_held = s.2 in
    let rows : are_rows t.schema (t.rows ++ cells ∷ []) ≡ true = list_all-append (is_row t.schema) t.rows (cells ∷ []) ∙ rw (old_rows, row) refl in
    let all_held : list_all (list_all is_held_cell) (t.rows ++ cells ∷ []) ≡ true = list_all-append (list_all is_held_cell) t.rows (cells ∷ []) ∙ rw (held, cells_held) refl in
    record {
      names = refl;
      fit = record { fit = rw (schema, rows) refl; plain = rw plain refl; held = rw all_held refl };
      lines = append-nil (head_line t.name t.schema ∷ map row_line (t.rows ++ cells ∷ []))
          ∙ ap (λ (ls : List (List ℕ)). head_line t.name t.schema ∷ ls) (map-append row_line t.rows (cells ∷ []) ∙ ap (λ (l : List ℕ). map row_line t.rows ++ l ∷ []) (sym s.0))
          ∙ ap (λ (ls : List (List ℕ)). ls ++ line ∷ []) (sym (append-nil (table_lines t)));
    }

pub row_goes : (tables new : List NamedTable) (line : List ℕ) → AreFit tables → with_row tables line ≡ Some new → RowGoes tables new line
row_goes [] new line f h = cc
row_goes (t ∷ []) new line f h =
    let x = bind_some (with_cells t (cells_of t.schema (fields_of line))) (λ t. Some (t ∷ [])) new h in
    let y = map_some (λ row. record t { rows = t.rows ++ row ∷ [] }) (cells_of t.schema (fields_of line)) x.0 x.1 in
    let is = ap (λ (u : NamedTable). u ∷ []) y.2 ∙ (chosen true (x.0 ∷ []) new x.2).1 in
    subst (λ n. RowGoes (t ∷ []) n line) is (last_goes t line y.0 f y.1)
row_goes (t ∷ u ∷ tables) new line f h =
    let y = before_some t (with_row (u ∷ tables) line) new h in
    let g = row_goes (u ∷ tables) y.0 line (rest_fit t (u ∷ tables) f) y.1 in
    subst (λ n. RowGoes (t ∷ u ∷ tables) n line) y.2 (record {
      names = ap (λ (ns : List (List ℕ)). t.name ∷ ns) g.names;
      fit = onto_fit t (u ∷ tables) y.0 f g.fit;
      lines = ap (λ (ls : List (List ℕ)). table_lines t ++ ls) g.lines ∙ sym (append_assoc (table_lines t) (flat_map table_lines (u ∷ tables)) (line ∷ []));
    })

-- what a further line makes is spelled, and the line is the last of its lines
abbrev pub Goes : List NamedTable → List NamedTable → List ℕ → Type 0
Goes tables new line = (is_spelled_set new ≡ true) × (flat_map table_lines new ≡ flat_map table_lines tables ++ line ∷ [])

row_step : (tables new : List NamedTable) (line : List ℕ) → is_spelled_set tables ≡ true → with_row tables line ≡ Some new → Goes tables new line
row_step tables new line set h =
    let g = row_goes tables new line (fit_of tables set) h in
    let names : are_distinct (map table_name new) ≡ true = ap are_distinct g.names ∙ first_so _ _ (first_so _ _ set) in
    let fits = g.fit.fit in
    let is_set : is_table_set new ≡ true = rw (names, fits) refl in
    (spelled_of new is_set g.fit, g.lines)

taken_else : {X : Type 0} (b : Bool) (x y : X) → cond b None (Some x) ≡ Some y → (b ≡ false) × (x ≡ y)
taken_else true x y h = cc
taken_else false x y h = (refl, (chosen true x y h).1)

head_text : (line name : List ℕ) (columns : List Column) → begins_table line ≡ true → drop 6 line ≡ tabbed (name ∷ map column_text columns) → line ≡ head_line name columns
head_text line name columns begins rest =
    sym (take-append-drop 6 line) ∙ ap (λ (t : List ℕ). t ++ drop 6 line) ((bytes_eq-Decides (take 6 line) (codes "table" ++ 9 ∷ [])).0 begins)
    ∙ ap (λ (t : List ℕ). (codes "table" ++ 9 ∷ []) ++ t) rest

head_step : (tables new : List NamedTable) (line : List ℕ) → is_spelled_set tables ≡ true → begins_table line ≡ true → with_head tables (head_of (drop 6 line)) ≡ Some new → Goes tables new line
head_step tables new line set begins h = by (head_of (drop 6 line)) refl h
  where
    by : (head : Option (List ℕ × List Column)) → head_of (drop 6 line) ≡ head → with_head tables head ≡ Some new → Goes tables new line
    by None e h' = cc
    by (Some (name, columns)) e h' =
        let t : NamedTable = record { name = name; schema = columns; rows = [] } in
        let s = head_of-spells (drop 6 line) name columns e in
        let named = s.1 in
        let schema = s.2 in
        let plain = s.3 in
        let taken = taken_else (has_table tables name) (tables ++ t ∷ []) new h' in
        let f = fit_of tables set in
        let fits : is_table t ≡ true = rw schema refl in
        let is_set : is_table_set (tables ++ t ∷ []) ≡ true = is_table_set-push tables t (first_so _ _ set) fits taken.0 in
        let a = f.fit in
        let b = f.plain in
        let d = f.held in
        let all : AreFit (tables ++ t ∷ []) = record {
          fit = list_all-append is_table tables (t ∷ []) ∙ rw (a, fits) refl;
          plain = list_all-append is_plain_table tables (t ∷ []) ∙ rw (b, named, plain) refl;
          held = list_all-append is_held_table tables (t ∷ []) ∙ rw d refl;
        } in
        subst (λ (n : List NamedTable). Goes tables n line) taken.1 (
          spelled_of (tables ++ t ∷ []) is_set all,
          flat_map-append table_lines tables (t ∷ []) ∙ ap (λ (l : List ℕ). flat_map table_lines tables ++ l ∷ []) (sym (head_text line name columns begins s.0)),
        )

pub step_goes : (tables new : List NamedTable) (line : List ℕ) → is_spelled_set tables ≡ true → step tables line ≡ Some new → Goes tables new line
step_goes tables new line set h = by (cases_Bool (begins_table line))
  where
    by : (begins_table line ≡ true) ⊎ (begins_table line ≡ false) → Goes tables new line
    by (inl e) = head_step tables new line set e (subst (λ q. cond q (with_head tables (head_of (drop 6 line))) (with_row tables line) ≡ Some new) e h)
    by (inr e) = row_step tables new line set (subst (λ q. cond q (with_head tables (head_of (drop 6 line))) (with_row tables line) ≡ Some new) e h)
