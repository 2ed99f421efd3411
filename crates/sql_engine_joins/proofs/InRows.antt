-- Lists that are cut into rows of one width.
use Rattle.std.proofs.Common.{◌≡◌, ℕ, zero, suc, ◌+◌, ◌*◌, ◌<◌, ◌≤◌, List, [], ◌∷◌, ◌++◌, take, drop, length, slice_get, Some, refl, ap, ◌∙◌, arith, length-drop}
use Rattle.std.proofs.lemmas.List.{take-append-le, drop-append-le, drop-drop, take_all}
use Rattle.std.proofs.Math.Nat.{suc-mul}
use Rattle.sql_engine_joins.specs.Rows.{in_rows}

pub in_rows_length : (width count : ℕ) (numbers : List ℕ) → length (in_rows width count numbers) ≡ count
in_rows_length width zero numbers = refl
in_rows_length width (suc count) numbers = ap suc (in_rows_length width count (drop width numbers))

-- a row lies within the list
pub row_within : (width count at : ℕ) → at < count → at * width + width ≤ count * width
row_within width zero at h = absurd (omega arith)
row_within width (suc count) zero h = omega (arith, suc-mul count width)
row_within width (suc count) (suc at) h = omega (arith, suc-mul at width, suc-mul count width, row_within width count at (omega arith))

pub row_at : (width count at : ℕ) (numbers : List ℕ) → at < count → slice_get (in_rows width count numbers) at ≡ Some (take width (drop (at * width) numbers))
row_at width zero at numbers h = absurd (omega arith)
row_at width (suc count) zero numbers h = let e : 0 ≡ 0 * width = omega arith in ap (λ (k : ℕ). Some (take width (drop k numbers))) e
row_at width (suc count) (suc at) numbers h =
    let next : width + at * width ≡ suc at * width = omega (arith, suc-mul at width) in
    row_at width count at (drop width numbers) (omega arith)
    ∙ ap (λ (l : List ℕ). Some (take width l)) (drop-drop (at * width) width numbers ∙ ap (λ (k : ℕ). drop k numbers) next)

pub in_rows_append : (width n m : ℕ) (xs ys : List ℕ) → length xs ≡ n * width → in_rows width (n + m) (xs ++ ys) ≡ in_rows width n xs ++ in_rows width m ys
in_rows_append width zero m [] ys h = let e : 0 + m ≡ m = omega arith in ap (λ (k : ℕ). in_rows width k ys) e
in_rows_append width zero m (x ∷ xs) ys h = absurd (omega (arith, h))
in_rows_append width (suc n) m xs ys h =
    let le : width ≤ length xs = omega (arith, h, suc-mul n width) in
    let rest : length (drop width xs) ≡ n * width = omega (arith, h, suc-mul n width, length-drop width xs) in
    let count : suc n + m ≡ suc (n + m) = omega arith in
    ap (λ (k : ℕ). in_rows width k (xs ++ ys)) count
    ∙ (λ i. take-append-le width xs ys le i ∷ in_rows width (n + m) (drop-append-le width xs ys le i))
    ∙ ap (λ (l : List (List ℕ)). take width xs ∷ l) (in_rows_append width n m (drop width xs) ys rest)

pub in_rows_push : (width n : ℕ) (xs row : List ℕ) → length xs ≡ n * width → length row ≡ width → in_rows width (n + 1) (xs ++ row) ≡ in_rows width n xs ++ row ∷ []
in_rows_push width n xs row h same =
    in_rows_append width n 1 xs row h ∙ ap (λ (l : List ℕ). in_rows width n xs ++ l ∷ []) (take_all width row (omega (arith, same)))

-- so many numbers more
pub numbers_more : (width n m : ℕ) (xs ys : List ℕ) → length xs ≡ n * width → length ys ≡ m * width → length xs + length ys ≡ (n + m) * width
numbers_more width n m xs ys h k = grind (arith, h, k)
