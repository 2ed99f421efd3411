-- Pieces with tabs between them, while they are written.
use Rattle.std.specs.Prelude.{◌≡◌, List, [], ◌∷◌, ◌++◌, ℕ}
use Rattle.std.specs.List.{flat_map}
use Rattle.std.proofs.Common.{ap, refl}
use Rattle.table_meaning.specs.declared.cell.Cell.{Cell}
use Rattle.table_meaning.specs.CellText.{tabbed, after_tab, ended, row_line}

-- a row, on a line of its own
abbrev pub row_text : List Cell → List ℕ
row_text cells = ended (row_line cells)

-- what is left to write, where this stands before the next piece
abbrev pub left_of : List ℕ → List (List ℕ) → List ℕ
left_of before [] = []
left_of before (piece ∷ pieces) = before ++ (piece ++ left_of (9 ∷ []) pieces)

left_behind : (pieces : List (List ℕ)) → left_of (9 ∷ []) pieces ≡ flat_map after_tab pieces
left_behind [] = refl
left_behind (piece ∷ pieces) = ap (λ (z : List ℕ). 9 ∷ (piece ++ z)) (left_behind pieces)

-- before the first piece nothing stands
pub left_at_first : (pieces : List (List ℕ)) → left_of [] pieces ≡ tabbed pieces
left_at_first [] = refl
left_at_first (piece ∷ pieces) = ap (λ (z : List ℕ). piece ++ z) (left_behind pieces)
