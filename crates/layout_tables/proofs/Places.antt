-- Cells by their places.
use Rattle.std.proofs.Common.{◌≡◌, ℕ, zero, suc, ◌+◌, ◌-◌, ◌/◌, ◌%◌, ◌==◌, ◌≤◌, ◌<◌, Bool, if◌then◌else◌, List, [], ◌∷◌, ◌++◌, map, Option, Some, None, slice_get, get_or, length, refl, sym, ap, ap₂, ◌∙◌, arith}
use Rattle.std.specs.Prelude.{unwrap_or}
use Rattle.std.specs.List.{flat_map}
use Rattle.table_meaning.specs.declared.cell.Cell.{Cell}
use Rattle.table_meaning.specs.declared.cell.Cell.TheVariants.{Null}
use Rattle.layout_meaning.specs.Side.{Pair}
use Rattle.primary_rows.specs.Cells.{pair_of}
use Rattle.primary_rows.specs.declared.cells.Pair as cells
use Rattle.primary_rows.specs.declared.views.RowView.{RowView}
use Rattle.primary_rows.specs.Views.{seen_row}
use Rattle.layout_standing_meaning.specs.Contents.{pair_cells, row_cells}

abbrev cell_in : List Cell → ℕ → Cell
cell_in row col = unwrap_or (slice_get row col) Null

first-cell : (o : Option Pair) (rest : List Cell) → slice_get (pair_cells o ++ rest) 0 ≡ slice_get (pair_cells o) 0
first-cell None rest = refl
first-cell (Some q) rest = refl

second-cell : (o : Option Pair) (rest : List Cell) → slice_get (pair_cells o ++ rest) 1 ≡ slice_get (pair_cells o) 1
second-cell None rest = refl
second-cell (Some q) rest = refl

later-cell : (o : Option Pair) (rest : List Cell) (n : ℕ) → slice_get (pair_cells o ++ rest) (suc (suc n)) ≡ slice_get rest n
later-cell None rest n = refl
later-cell (Some q) rest n = refl

half-on : (n : ℕ) → suc (suc n) / 2 ≡ suc (n / 2)
half-on n = grind arith

odd-on : (n : ℕ) → suc (suc n) % 2 ≡ n % 2
odd-on n = grind arith

abbrev half : Bool → ℕ
half second = if second then 1 else 0

pub pair-at : (ps : List cells.Pair) (at : ℕ) (d : cells.Pair) → at / 2 < length ps → cell_in (pair_cells (pair_of (get_or ps (at / 2) d))) (half (at % 2 == 1)) ≡ cell_in (flat_map pair_cells (map pair_of ps)) at
pair-at [] at d l = absurd (omega arith)
pair-at (q ∷ ps) zero d l = sym (ap (λ (o : Option Cell). unwrap_or o Null) (first-cell (pair_of q) (flat_map pair_cells (map pair_of ps))))
pair-at (q ∷ ps) (suc zero) d l = sym (ap (λ (o : Option Cell). unwrap_or o Null) (second-cell (pair_of q) (flat_map pair_cells (map pair_of ps))))
pair-at (q ∷ ps) (suc (suc n)) d l =
    let i = half-on n in
    let k : n / 2 < length ps = omega arith in
    ap₂ (λ (m j : ℕ). cell_in (pair_cells (pair_of (get_or (q ∷ ps) m d))) (half (j == 1))) i (odd-on n) ∙ pair-at ps n d k
    ∙ sym (ap (λ (o : Option Cell). unwrap_or o Null) (later-cell (pair_of q) (flat_map pair_cells (map pair_of ps)) n))

pub pair-past : (ps : List cells.Pair) (at : ℕ) → length ps ≤ at / 2 → Null ≡ cell_in (flat_map pair_cells (map pair_of ps)) at
pair-past [] at l = refl
pair-past (q ∷ ps) zero l = absurd (omega arith)
pair-past (q ∷ ps) (suc zero) l = absurd (omega arith)
pair-past (q ∷ ps) (suc (suc n)) l =
    let i = half-on n in
    let k : length ps ≤ n / 2 = omega arith in
    pair-past ps n k ∙ sym (ap (λ (o : Option Cell). unwrap_or o Null) (later-cell (pair_of q) (flat_map pair_cells (map pair_of ps)) n))

-- an item of a map
pub mapped-at : {X Y : Type 0} (f : X → Y) (xs : List X) (i : ℕ) (x : X) → i < length (map f xs) → x ≡ get_or xs i x → slice_get (map f xs) i ≡ Some (f x)
mapped-at f [] i x l e = absurd (omega arith)
mapped-at {X} {Y} f (y ∷ ys) zero x l e = ap (λ (z : X). Some (f z)) (sym e)
mapped-at f (y ∷ ys) (suc i) x l e = mapped-at f ys i x (omega arith) e

pub shown-primary : (rows : List RowView) → map (λ (r : RowView). row_cells (seen_row r)) rows ≡ map row_cells (map seen_row rows)
shown-primary [] = refl
shown-primary (r ∷ rows) = ap (λ (l : List (List Cell)). row_cells (seen_row r) ∷ l) (shown-primary rows)
