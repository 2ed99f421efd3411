-- The rows that equal a key, one row more.
use Rattle.std.proofs.Common.{◌≡◌, ℕ, ◌+◌, ◌<◌, Bool, true, false, List, [], ◌∷◌, ◌++◌, take, length, get_or, slice_get, Some, if◌then◌else◌, ap, ◌∙◌, arith}
use Rattle.std.proofs.lemmas.List.{take_more, length-take-le}
use Rattle.std.proofs.lemmas.Option.{get_or_from_slice_get, slice_get_within}
use Rattle.table_meaning.specs.declared.cell.Cell.{Cell}
use Rattle.sql_index.specs.Matches.{is_equal, equal_from, equal_rows}

in_front : (b : Bool) (n : ℕ) (all before after : List ℕ) → all ≡ before ++ after → (if b then n ∷ all else all) ≡ (if b then n ∷ before else before) ++ after
in_front true n all before after e = ap (λ (l : List ℕ). n ∷ l) e
in_front false n all before after e = e

from-append : (key : Cell) (n : ℕ) (xs ys : List Cell) → equal_from key n (xs ++ ys) ≡ equal_from key n xs ++ equal_from key (n + length xs) ys
from-append key n [] ys = ap (λ (k : ℕ). equal_from key k ys) (let e : n ≡ n + 0 = omega arith in e)
from-append key n (x ∷ xs) ys =
    in_front (is_equal key x) n (equal_from key (n + 1) (xs ++ ys)) (equal_from key (n + 1) xs) (equal_from key (n + length (x ∷ xs)) ys)
    (from-append key (n + 1) xs ys ∙ ap (λ (k : ℕ). equal_from key (n + 1) xs ++ equal_from key k ys) (let e : n + 1 + length xs ≡ n + length (x ∷ xs) = omega arith in e))

-- the rows of the first i + 1 cells
pub rows_more : (key : Cell) (i : ℕ) (cells : List Cell) (c : Cell) → slice_get cells i ≡ Some c → equal_rows (take (i + 1) cells) key ≡ equal_rows (take i cells) key ++ (if is_equal key c then i ∷ [] else [])
rows_more key i cells c at =
    let within : i < length cells = slice_get_within cells i c at in
    let here : get_or cells i c ≡ c = get_or_from_slice_get cells i c c at in
    ap (λ (l : List Cell). equal_rows l key) (take_more cells i c within ∙ ap (λ d. take i cells ++ d ∷ []) here)
    ∙ from-append key 0 (take i cells) (c ∷ [])
    ∙ ap (λ (k : ℕ). equal_rows (take i cells) key ++ equal_from key k (c ∷ [])) (let e : 0 + length (take i cells) ≡ i = omega (arith, length-take-le i cells) in e)
