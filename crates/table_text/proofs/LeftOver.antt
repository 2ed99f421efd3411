-- More fields than columns.
use Rattle.std.proofs.Common.{◌≡◌, ℕ, ◌≤◌, true, List, [], drop, length, sym, ap, ◌∙◌}
use Rattle.std.specs.Prelude.{Option, None, Some}
use Rattle.std.specs.Borrow.{Bor}
use Rattle.std.specs.Option.{is_some}
use Rattle.std.proofs.lemmas.List.{drop_all}
use Rattle.table_meaning.specs.declared.schema.Column.{Column}
use Rattle.table_meaning.specs.declared.cell.Cell.{Cell}
use Rattle.table_text.specs.Reading.{before, cells_of, fields_of, fields_left}
use Rattle.table_text.proofs.Cuts.{no_columns}

pub left_over : (columns : List Column) (i : ℕ) (cells : List Cell) (rest : Option (Bor (List ℕ))) (fields : List (List ℕ)) → before cells (cells_of (drop i columns) (fields_left rest)) ≡ cells_of columns fields
    → length columns ≤ i → is_some rest ≡ true → None ≡ cells_of columns fields
left_over columns i cells None fields e all some = cc
left_over columns i cells (Some r) fields e all some =
    let gone : drop i columns ≡ [] = drop_all i columns all in
    let none : before cells (cells_of [] (fields_of r.now)) ≡ None = ap (before cells) (no_columns r.now) in
    sym none ∙ rw gone at e
