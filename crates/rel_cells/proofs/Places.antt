-- A cell by its places.
use Rattle.std.proofs.Common.{◌≡◌, ℕ, ◌<◌, List, [], Some, length, get_or, slice_get}
use Rattle.std.specs.Prelude.{unwrap_or}
use Rattle.std.proofs.lemmas.Option.{slice_get_read}
use Rattle.table_meaning.specs.declared.cell.Cell.{Cell}
use Rattle.table_meaning.specs.declared.cell.Cell.TheVariants.{Null}

pub placed_cell : (rows : List (List Cell)) (i col : ℕ) (row : List Cell) (x : Cell) → i < length rows → row ≡ get_or rows i row → col < length row → x ≡ get_or row col x
    → x ≡ unwrap_or (slice_get (unwrap_or (slice_get rows i) []) col) Null
placed_cell rows i col row x inside is reach cell =
    let there : slice_get rows i ≡ Some row = slice_get_read rows (length rows) i row (λ _. length rows) inside is in
    let found : slice_get row col ≡ Some x = slice_get_read row (length row) col x (λ _. length row) reach cell in
    rw (there, found) (λ _. x)
