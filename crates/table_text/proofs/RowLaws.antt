-- Rows and heads: what is spelled is read, and what is read is spelled.
use Rattle.std.proofs.Common.{◌≡◌, ◌⊎◌, inl, inr, ℕ, true, false, cond, eqb, List, [], ◌∷◌, map, refl, sym, ap, subst, ◌∙◌, append-nil}
use Rattle.std.specs.Prelude.{Some, if◌then◌else◌}
use Rattle.std.specs.Cmp.{first_so, second_so}
use Rattle.std.specs.List.{list_all}
use Rattle.std.proofs.lemmas.Bool.{cases_Bool, eqb-true}
use Rattle.table_meaning.specs.declared.kind.Kind.{Kind}
use Rattle.table_meaning.specs.declared.kind.Kind.TheVariants as kinds
use Rattle.table_meaning.specs.declared.cell.Cell.{Cell}
use Rattle.table_meaning.specs.declared.schema.Column.{Column}
use Rattle.table_meaning.specs.CellText.{cell_text, row_line, tabbed}
use Rattle.table_meaning.specs.Names.{is_name}
use Rattle.table_meaning.specs.CellText.{is_held_cell}
use Rattle.table_text_meaning.specs.TableText.{is_truth, is_plain_column, onto_first}
use Rattle.table_meaning.specs.Tables.{is_row, has_kind}
use Rattle.table_text.specs.Reading.{before, fields_of, cell_of, cells_of, is_other}
use Rattle.table_text.proofs.Cuts.{fields_of-before, fields_of-alone}
use Rattle.table_text.proofs.TextLaws.{chosen, bind_some, before_some}
use Rattle.table_text.proofs.CellLaws.{cell_of-spelled, cell_of-spells, cell_other, IsStop, tab_stops, SpellsCell}

-- the parts between tabs are the parts that were put together
pub fields_of-tabbed : (piece : List ℕ) (pieces : List (List ℕ)) → list_all (list_all (is_other 9)) (piece ∷ pieces) ≡ true → fields_of (tabbed (piece ∷ pieces)) ≡ piece ∷ pieces
fields_of-tabbed piece [] h = ap fields_of (append-nil piece) ∙ fields_of-alone piece (first_so _ _ h)
fields_of-tabbed piece (next ∷ pieces) h =
    fields_of-before piece (tabbed (next ∷ pieces)) (first_so _ _ h)
    ∙ ap (λ (fs : List (List ℕ)). piece ∷ fs) (fields_of-tabbed next pieces (second_so (list_all (is_other 9) piece) _ h))

onto_tabbed : (b : ℕ) (fields : List (List ℕ)) (bs : List ℕ) → tabbed fields ≡ bs → (fields ≡ [] → ⊥) → tabbed (onto_first b fields) ≡ b ∷ bs
onto_tabbed b [] bs e some = absurd (some refl)
onto_tabbed b (f ∷ fs) bs e some = ap (λ (t : List ℕ). b ∷ t) e

tab_tabbed : (fields : List (List ℕ)) (bs : List ℕ) → tabbed fields ≡ bs → (fields ≡ [] → ⊥) → tabbed ([] ∷ fields) ≡ 9 ∷ bs
tab_tabbed [] bs e some = absurd (some refl)
tab_tabbed (f ∷ fs) bs e some = ap (λ (t : List ℕ). 9 ∷ t) e

some_field : (line : List ℕ) → fields_of line ≡ [] → ⊥
some_field [] h = cc
some_field (b ∷ bs) h = by (cases_Bool (eqb b 9)) (fields_of bs) refl (some_field bs)
  where
    by : (eqb b 9 ≡ true) ⊎ (eqb b 9 ≡ false) → (fs : List (List ℕ)) → fields_of bs ≡ fs → (fields_of bs ≡ [] → ⊥) → ⊥
    by (inl e) fs is ih = let no_field : cond true ([] ∷ fields_of bs) (onto_first b (fields_of bs)) ≡ [] = subst (λ q. cond q ([] ∷ fields_of bs) (onto_first b (fields_of bs)) ≡ []) e h in cc
    by (inr e) [] is ih = ih is
    by (inr e) (f ∷ fs) is ih =
        let there : cond false ([] ∷ fields_of bs) (onto_first b (fields_of bs)) ≡ [] = subst (λ q. cond q ([] ∷ fields_of bs) (onto_first b (fields_of bs)) ≡ []) e h in
        let no_field : onto_first b (f ∷ fs) ≡ [] = subst (λ (g : List (List ℕ)). onto_first b g ≡ []) is there in cc

pub tabbed-fields_of : (line : List ℕ) → tabbed (fields_of line) ≡ line
tabbed-fields_of [] = refl
tabbed-fields_of (b ∷ bs) = by (cases_Bool (eqb b 9)) (tabbed-fields_of bs)
  where
    by : (eqb b 9 ≡ true) ⊎ (eqb b 9 ≡ false) → tabbed (fields_of bs) ≡ bs → tabbed (fields_of (b ∷ bs)) ≡ b ∷ bs
    by (inl e) ih = rw e (tab_tabbed (fields_of bs) bs ih (some_field bs) ∙ ap (λ (x : ℕ). x ∷ bs) (sym (eqb-true b 9 e)))
    by (inr e) ih = rw e (onto_tabbed b (fields_of bs) bs ih (some_field bs))

not_truth : (kind : Kind) → (if is_truth kind then false else true) ≡ true → is_truth kind ≡ false
not_truth kinds.Int h = refl
not_truth kinds.Text h = refl
not_truth kinds.Truth h = cc

pub cells_of-spelled : (columns : List Column) (cells : List Cell) → is_row columns cells ≡ true → list_all is_held_cell cells ≡ true → list_all is_plain_column columns ≡ true
    → cells_of columns (map cell_text cells) ≡ Some cells
cells_of-spelled [] [] row held plain = refl
cells_of-spelled [] (cell ∷ cells) row held plain = cc
cells_of-spelled (column ∷ columns) [] row held plain = cc
cells_of-spelled (column ∷ columns) (cell ∷ cells) row held plain =
    let kind : is_truth column.kind ≡ false = not_truth column.kind (second_so (is_name column.name) _ (first_so _ _ plain)) in
    let first : cell_of column.kind (cell_text cell) ≡ Some cell = cell_of-spelled column.kind cell (first_so _ _ row) (first_so _ _ held) kind in
    let others : cells_of columns (map cell_text cells) ≡ Some cells =
    cells_of-spelled columns cells (second_so (has_kind column.kind cell) _ row) (second_so (is_held_cell cell) _ held) (second_so (is_plain_column column) _ plain) in
    rw (first, others) refl

abbrev pub SpellsCells : List Column → List (List ℕ) → List Cell → Type 0
SpellsCells columns fields cells = (fields ≡ map cell_text cells) × (is_row columns cells ≡ true) × (list_all is_held_cell cells ≡ true)

pub cells_of-spells : (columns : List Column) (fields : List (List ℕ)) (cells : List Cell) → cells_of columns fields ≡ Some cells → SpellsCells columns fields cells
cells_of-spells [] [] cells h = subst (SpellsCells [] []) (chosen true [] cells h).1 (refl, refl, refl)
cells_of-spells [] (field ∷ fields) cells h = cc
cells_of-spells (column ∷ columns) [] cells h = cc
cells_of-spells (column ∷ columns) (field ∷ fields) cells h =
    let x = bind_some (cell_of column.kind field) (λ cell. before (cell ∷ []) (cells_of columns fields)) cells h in
    let y = before_some x.0 (cells_of columns fields) cells x.2 in
    let first : SpellsCell column.kind field x.0 = cell_of-spells column.kind field x.0 x.1 in
    let others : SpellsCells columns fields y.0 = cells_of-spells columns fields y.0 y.1 in
    subst (SpellsCells (column ∷ columns) (field ∷ fields)) y.2
    (ap (λ (f : List ℕ). f ∷ fields) first.0 ∙ ap (λ (fs : List (List ℕ)). cell_text x.0 ∷ fs) others.0, rw (first.1, others.1) refl, rw (first.2, others.2) refl)

cells_other : (stop : ℕ) (s : IsStop stop) (cells : List Cell) → list_all is_held_cell cells ≡ true → list_all (list_all (is_other stop)) (map cell_text cells) ≡ true
cells_other stop s [] held = refl
cells_other stop s (cell ∷ cells) held =
    let first = cell_other stop s cell (first_so _ _ held) in
    let others = cells_other stop s cells (second_so (is_held_cell cell) _ held) in
    rw (first, others) refl

-- a row's line is read
pub row-spelled : (column : Column) (columns : List Column) (cells : List Cell) → is_row (column ∷ columns) cells ≡ true → list_all is_held_cell cells ≡ true → list_all is_plain_column (column ∷ columns) ≡ true
    → cells_of (column ∷ columns) (fields_of (row_line cells)) ≡ Some cells
row-spelled column columns [] row held plain = cc
row-spelled column columns (cell ∷ cells) row held plain =
    ap (cells_of (column ∷ columns)) (fields_of-tabbed (cell_text cell) (map cell_text cells) (cells_other 9 tab_stops (cell ∷ cells) held))
    ∙ cells_of-spelled (column ∷ columns) (cell ∷ cells) row held plain

-- what is read is a row's line
pub row-spells : (columns : List Column) (line : List ℕ) (cells : List Cell) → cells_of columns (fields_of line) ≡ Some cells
    → (line ≡ row_line cells) × (is_row columns cells ≡ true) × (list_all is_held_cell cells ≡ true)
row-spells columns line cells h =
    let s = cells_of-spells columns (fields_of line) cells h in
    (sym (tabbed-fields_of line) ∙ ap tabbed s.0, s.1, s.2)
