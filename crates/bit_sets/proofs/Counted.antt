-- How many numbers words have, and that they are few.
use Rattle.std.proofs.Common.{◌≡◌, ◌<◌, ◌≤◌, ◌+◌, ◌*◌, ◌/◌, ◌%◌, ◌^◌, ℕ, zero, suc, nat_eq, Bool, true, false, cond, Less, List, [], ◌∷◌, length, get_or, take, length-append, refl, sym, ap, ◌∙◌, subst, add-one, arith}
use Rattle.std.specs.Int.{bit_at}
use Rattle.std.specs.Int.RustNames.{count_ones}
use Rattle.std.specs.Int.Count.{ones_step}
use Rattle.std.specs.List.{AllByRecursion, filter, flat_map, range_with_len}
use Rattle.std.specs.List.Sorted.{IsStrictlySortedBy}
use Rattle.std.specs.Map.{keys_of}
use Rattle.std.specs.Ordering.{nat_cmp}
use Rattle.std.proofs.lemmas.Bool.Decides.{nat_tests}
use Rattle.std.proofs.lemmas.List.Folds.{length-flat_map-take}
use Rattle.std.proofs.lemmas.Nat.{shr-shr, shr_below, ones_le_self}
use Rattle.bit_sets.specs.Blocks.{numbers_of, numbers_in, IsBlock, AreWords}
use Rattle.bit_sets.proofs.Members.{numbers_more}

-- ---- one word
one_more : (x : ℕ) (a : ℕ) (rest : List ℕ) (t : Bool) → nat_eq (x % 2) 1 ≡ t → length rest ≡ count_ones (x / 2) → length (cond t (a ∷ rest) rest) ≡ count_ones x
one_more x a rest true e h = let s = ones_step x in let odd : x % 2 ≡ 1 = grind (arith, nat_tests) in omega (arith, s, odd, h)
one_more x a rest false e h = let s = ones_step x in let even : x % 2 ≡ 0 = grind (arith, nat_tests) in omega (arith, s, even, h)

-- the numbers from bit j on
ones_from : (w b m a j : ℕ) → a ≡ b * 64 + j → j + m ≡ 64 → w / 2 ^ j < 2 ^ m → length (filter (λ n. nat_eq (bit_at w (n % 64)) 1) (range_with_len a m)) ≡ count_ones (w / 2 ^ j)
ones_from w b zero a j e l h =
    let none : w / 2 ^ j ≡ 0 = omega (arith, h) in
    let no_ones : count_ones 0 ≡ 0 = omega (arith, ones_le_self 0) in
    sym (ap count_ones none ∙ no_ones)
ones_from w b (suc m) a j e l h =
    let x = w / 2 ^ j in
    let half : x / 2 ≡ w / 2 ^ (j + 1) = shr-shr w j 1 in
    let below : x / 2 < 2 ^ m = shr_below x m 1 (subst (λ (k : ℕ). x < 2 ^ k) (sym (add-one m)) h) in
    let rest = filter (λ n. nat_eq (bit_at w (n % 64)) 1) (range_with_len (a + 1) m) in
    let later : length rest ≡ count_ones (x / 2) = ones_from w b m (a + 1) (j + 1) (omega arith) (omega arith) (subst (λ (y : ℕ). y < 2 ^ m) half below) ∙ ap count_ones (sym half) in
    let place : a % 64 ≡ j = omega arith in
    one_more x a rest (nat_eq (bit_at w (a % 64)) 1) (ap (λ (i : ℕ). nat_eq (bit_at w i) 1) (sym place)) later

pub length_of : (b w : ℕ) → w < 2 ^ 64 → length (numbers_of (b, w)) ≡ count_ones w
unfolding numbers_of
length_of b w l =
    let whole : w / 1 ≡ w = omega arith in
    ones_from w b 64 (b * 64) 0 (omega arith) refl (subst (λ (x : ℕ). x < 2 ^ 64) (sym whole) l) ∙ ap count_ones whole

-- ---- blocks
pub length_more : (es : List (ℕ × ℕ)) (i : ℕ) (d : ℕ × ℕ) → i < length es → length (numbers_in (take (suc i) es)) ≡ length (numbers_in (take i es)) + length (numbers_of (get_or es i d))
length_more es i d l = ap length (numbers_more es i d l) ∙ length-append (numbers_in (take i es)) (numbers_of (get_or es i d))

few_from : (p : ℕ → Bool) (a m : ℕ) → length (filter p (range_with_len a m)) ≤ m
few_from p a zero = omega arith
few_from p a (suc m) = by (p a) (few_from p (a + 1) m)
  where
    by : (t : Bool) → length (filter p (range_with_len (a + 1) m)) ≤ m → length (cond t (a ∷ filter p (range_with_len (a + 1) m)) (filter p (range_with_len (a + 1) m))) ≤ suc m
    by true h = omega (arith, h)
    by false h = omega (arith, h)

few_of : (e : ℕ × ℕ) → length (numbers_of e) ≤ 64
unfolding numbers_of
few_of e = few_from (λ n. nat_eq (bit_at e.1 (n % 64)) 1) (e.0 * 64) 64

few_in : (es : List (ℕ × ℕ)) → length (numbers_in es) ≤ 64 * length es
unfolding numbers_in
few_in [] = omega arith
few_in (e ∷ es) = omega (arith, length-append (numbers_of e) (flat_map numbers_of es), few_of e, few_in es)

below : (a b : ℕ) → nat_cmp a b ≡ Less → a < b
below a b h = grind (arith, nat_tests)

few_after : (b : ℕ) (es : List (ℕ × ℕ)) → b < 2 ^ 26 → AllByRecursion (λ z. nat_cmp b z ≡ Less) (keys_of es) → IsStrictlySortedBy nat_cmp (keys_of es) → AllByRecursion IsBlock (keys_of es) → length es + b < 2 ^ 26
unfolding IsStrictlySortedBy
few_after b [] l later rising blocks = omega (arith, l)
few_after b (e ∷ es) l later rising blocks = omega (arith, below b e.0 later.0, few_after e.0 es blocks.0 rising.0 rising.1 blocks.1)

few_blocks : (es : List (ℕ × ℕ)) → IsStrictlySortedBy nat_cmp (keys_of es) → AllByRecursion IsBlock (keys_of es) → length es ≤ 2 ^ 26
unfolding IsStrictlySortedBy
few_blocks [] rising blocks = omega arith
few_blocks (e ∷ es) rising blocks = omega (arith, few_after e.0 es blocks.0 rising.0 rising.1 blocks.1)

-- with one more block they are as many as numbers of 32 bits at most
pub few_numbers : (es : List (ℕ × ℕ)) (i : ℕ) (d : ℕ × ℕ) → AreWords es → i < length es → length (numbers_in (take i es)) + length (numbers_of (get_or es i d)) ≤ 2 ^ 32
unfolding numbers_in
few_numbers es i d words l = omega (arith, length-flat_map-take numbers_of es i d l, few_in es, few_blocks es words.rising words.blocks)
