-- Which numbers two words of one block have in common.
use Rattle.std.proofs.Common.{◌≡◌, ◌<◌, ◌≤◌, ◌+◌, ◌*◌, ◌/◌, ◌%◌, ◌^◌, min, ◌≢◌, ℕ, zero, suc, nat_eq, Bool, true, false, not, ◌||◌, cond, List, [], ◌∷◌, length, get_or, take, refl, sym, ap, ◌∙◌, arith, w64}
use Rattle.std.specs.Int.{bit_at, trailing_zeros}
use Rattle.std.specs.Int.Bits.{bit_and}
use Rattle.std.specs.List.{filter, list_any, range_with_len}
use Rattle.std.proofs.lemmas.Bool.Decides.{nat_tests}
use Rattle.std.proofs.lemmas.List.Folds.{list_any-append}
use Rattle.std.proofs.lemmas.Nat.{and_le_l}
use Rattle.std.proofs.lemmas.Nat.Bits.{bit_at-lt, bit_at-zero, bit_at_and, bit_at-trailing_zeros}
use Rattle.bit_sets.specs.Blocks.{numbers_of, numbers_in}
use Rattle.bit_sets.proofs.Found.{own_block}
use Rattle.bit_sets.proofs.Members.{numbers_more}

-- a number that is there and passes
any_of : (p : ℕ → Bool) (n : ℕ) (xs : List ℕ) → list_any (nat_eq n) xs ≡ true → p n ≡ true → list_any p xs ≡ true
any_of p n [] there pass = there
any_of p n (x ∷ xs) there pass = by (nat_eq n x) refl (λ h. any_of p n xs h pass) there
  where
    passed : (b : Bool) → b ≡ true → (b || list_any p xs) ≡ true
    passed true e = refl
    passed false e = ap (λ (c : Bool). c || list_any p xs) e

    later : (b : Bool) → list_any p xs ≡ true → (b || list_any p xs) ≡ true
    later true e = refl
    later false e = e

    by : (b : Bool) → nat_eq n x ≡ b → (list_any (nat_eq n) xs ≡ true → list_any p xs ≡ true) → (b || list_any (nat_eq n) xs) ≡ true → (p x || list_any p xs) ≡ true
    by true e rest h = let same : n ≡ x = grind (arith, nat_tests) in passed (p x) (ap p (sym same) ∙ pass)
    by false e rest h = later (p x) (rest h)

-- the test tells of each number of block b whether word v has it
module _ (p : ℕ → Bool) (b v : ℕ) (tells : (n : ℕ) → n / 64 ≡ b → p n ≡ nat_eq (bit_at v (n % 64)) 1) (w : ℕ) where
  none_from : (a m : ℕ) → bit_and w v ≡ 0 → b * 64 ≤ a → a + m ≤ b * 64 + 64 → list_any p (filter (λ n. nat_eq (bit_at w (n % 64)) 1) (range_with_len a m)) ≡ false
  none_from a zero e l h = refl
  none_from a (suc m) e l h = by (nat_eq (bit_at w (a % 64)) 1) refl (none_from (a + 1) m e (omega arith) (omega arith))
    where
      i : ℕ
      i = a % 64

      rest : List ℕ
      rest = filter (λ n. nat_eq (bit_at w (n % 64)) 1) (range_with_len (a + 1) m)

      by : (t : Bool) → nat_eq (bit_at w i) 1 ≡ t → list_any p rest ≡ false → list_any p (cond t (a ∷ rest) rest) ≡ false
      by true has none =
          let both : min (bit_at w i) (bit_at v i) ≡ 0 = sym (bit_at_and w v i) ∙ ap (λ (u : ℕ). bit_at u i) e ∙ bit_at-zero i in
          let one : bit_at w i ≡ 1 = grind (arith, nat_tests) in
          let not_there : bit_at v i ≡ 0 = omega (arith, both, one) in
          rw (tells a (omega arith), not_there) none
      by false has none = none

  met_none : bit_and w v ≡ 0 → list_any p (numbers_of (b, w)) ≡ false
  unfolding numbers_of
  met_none e = none_from (b * 64) 64 e (omega arith) (omega arith)

  met_some : w < 2 ^ 64 → bit_and w v ≢ 0 → list_any p (numbers_of (b, w)) ≡ true
  met_some l differ =
      let u = bit_and w v in
      let i = trailing_zeros w64 u in
      let below : u < 2 ^ 64 = omega (arith, l, and_le_l w v) in
      let found = bit_at-trailing_zeros w64 u (omega (arith, differ)) below in
      let both : min (bit_at w i) (bit_at v i) ≡ 1 = sym (bit_at_and w v i) ∙ found.1 in
      let in_w : bit_at w i ≡ 1 = omega (arith, both, bit_at-lt w i, bit_at-lt v i) in
      let in_v : bit_at v i ≡ 1 = omega (arith, both, bit_at-lt w i, bit_at-lt v i) in
      let n = b * 64 + i in
      let block : n / 64 ≡ b = omega (arith, found.0) in
      let place : n % 64 ≡ i = omega (arith, found.0) in
      any_of p n (numbers_of (b, w))
      (own_block n b w block ∙ ap (λ (j : ℕ). nat_eq (bit_at w j) 1) place ∙ ap (λ (x : ℕ). nat_eq x 1) in_w)
      (tells n block ∙ ap (λ (j : ℕ). nat_eq (bit_at v j) 1) place ∙ ap (λ (x : ℕ). nat_eq x 1) in_v)

  pub met : w < 2 ^ 64 → list_any p (numbers_of (b, w)) ≡ not (nat_eq (bit_and w v) 0)
  met l = by (nat_eq (bit_and w v) 0) refl
    where
      by : (t : Bool) → nat_eq (bit_and w v) 0 ≡ t → list_any p (numbers_of (b, w)) ≡ not t
      by true e = met_none (grind (arith, nat_tests))
      by false e = met_some l (grind (arith, nat_tests))

-- ---- blocks
or_true : (a : Bool) → (a || true) ≡ true
or_true true = refl
or_true false = refl

-- a block settles it
pub met_in : (p : ℕ → Bool) (es : List (ℕ × ℕ)) (i : ℕ) (d : ℕ × ℕ) → i < length es → list_any p (numbers_of (get_or es i d)) ≡ true → list_any p (numbers_in es) ≡ true
unfolding numbers_in
met_in p [] i d l h = absurd (omega arith)
met_in p (e ∷ es) zero d l h = list_any-append p (numbers_of e) (numbers_in es) ∙ ap (λ (a : Bool). a || list_any p (numbers_in es)) h
met_in p (e ∷ es) (suc i) d l h = list_any-append p (numbers_of e) (numbers_in es) ∙ ap (λ (a : Bool). list_any p (numbers_of e) || a) (met_in p es i d (omega arith) h) ∙ or_true (list_any p (numbers_of e))

-- one more block
pub met_more : (p : ℕ → Bool) (es : List (ℕ × ℕ)) (i : ℕ) (d : ℕ × ℕ) → i < length es → list_any p (numbers_in (take i es)) ≡ false → list_any p (numbers_of (get_or es i d)) ≡ false → list_any p (numbers_in (take (suc i) es)) ≡ false
met_more p es i d l before here =
    ap (list_any p) (numbers_more es i d l) ∙ list_any-append p (numbers_in (take i es)) (numbers_of (get_or es i d)) ∙ ap (λ (a : Bool). a || list_any p (numbers_of (get_or es i d))) before ∙ here

-- ---- both ways round
or_four : (a b c d : Bool) → ((a || b) || (c || d)) ≡ ((a || c) || (b || d))
or_four true b c d = refl
or_four false true true d = refl
or_four false true false d = refl
or_four false false c d = refl

any_or : (p q : ℕ → Bool) (xs : List ℕ) → list_any (λ n. p n || q n) xs ≡ (list_any p xs || list_any q xs)
any_or p q [] = refl
any_or p q (x ∷ xs) = ap (λ (a : Bool). (p x || q x) || a) (any_or p q xs) ∙ or_four (p x) (q x) (list_any p xs) (list_any q xs)

turned : (n m : ℕ) → nat_eq n m ≡ nat_eq m n
turned n m = grind (arith, nat_tests)

any_turned : (n : ℕ) (xs : List ℕ) → list_any (λ m. nat_eq m n) xs ≡ list_any (nat_eq n) xs
any_turned n [] = refl
any_turned n (x ∷ xs) = rw (turned x n) (ap (λ (a : Bool). nat_eq n x || a) (any_turned n xs))

any_false : (xs : List ℕ) → list_any (λ n. false) xs ≡ false
any_false [] = refl
any_false (x ∷ xs) = any_false xs

pub met_turned : (xs ys : List ℕ) → list_any (λ n. list_any (nat_eq n) ys) xs ≡ list_any (λ n. list_any (nat_eq n) xs) ys
met_turned [] ys = sym (any_false ys)
met_turned (x ∷ xs) ys =
    ap (λ (a : Bool). list_any (nat_eq x) ys || a) (met_turned xs ys)
    ∙ ap (λ (a : Bool). a || list_any (λ n. list_any (nat_eq n) xs) ys) (sym (any_turned x ys))
    ∙ sym (any_or (λ n. nat_eq n x) (λ n. list_any (nat_eq n) xs) ys)
