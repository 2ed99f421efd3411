-- The lowest number of a block, and the others.
use Rattle.std.proofs.Common.{◌≡◌, ◌<◌, ◌≤◌, ◌+◌, ◌*◌, ◌%◌, ◌^◌, ◌≢◌, ℕ, zero, suc, nat_eq, Bool, cond, List, [], ◌∷◌, inl, inr, refl, sym, ap, ap₂, ◌∙◌, arith}
use Rattle.std.specs.Int.{bit_at, bit_not, trailing_zeros}
use Rattle.std.specs.Int.Bits.{bit_and}
use Rattle.std.specs.List.{filter, range_with_len}
use Rattle.std.proofs.Common.{w64}
use Rattle.std.proofs.lemmas.Bool.{cases_lt}
use Rattle.std.proofs.lemmas.Nat.{and_le_l}
use Rattle.std.proofs.lemmas.Nat.Bits.{bit_at-zero, bit_at-trailing_zeros, bit_at_clear_same, bit_at_clear_other}
use Rattle.bit_sets.specs.Blocks.{numbers_of}

-- v is w without its lowest bit, which is at the place
record IsLowest (w v place : ℕ) : Type 0 where
  within : place < 64
  bit : bit_at w place ≡ 1
  before : (i : ℕ) → i < place → bit_at w i ≡ 0
  cleared : bit_at v place ≡ 0
  others : (i : ℕ) → i < 64 → i ≢ place → bit_at v i ≡ bit_at w i

abbrev has_bit : ℕ → ℕ → Bool
has_bit w n = nat_eq (bit_at w (n % 64)) 1

-- the test at number j of a block
test_at : (w b a j x : ℕ) → a ≡ b * 64 + j → j < 64 → bit_at w j ≡ x → has_bit w a ≡ nat_eq x 1
test_at w b a j x e l h = let k : a % 64 ≡ j = omega arith in ap (λ (i : ℕ). nat_eq (bit_at w i) 1) k ∙ ap (λ (y : ℕ). nat_eq y 1) h

same_later : (w v place b m a j : ℕ) → IsLowest w v place → a ≡ b * 64 + j → j + m ≡ 64 → place < j → filter (has_bit w) (range_with_len a m) ≡ filter (has_bit v) (range_with_len a m)
same_later w v place b zero a j low e f l = refl
same_later w v place b (suc m) a j low e f l =
    let test : has_bit w a ≡ has_bit v a = test_at w b a j (bit_at w j) e (omega arith) refl ∙ sym (test_at v b a j (bit_at w j) e (omega arith) (low.others j (omega arith) (λ h. omega arith))) in
    ap₂ (λ (t : Bool) (rest : List ℕ). cond t (a ∷ rest) rest) test (same_later w v place b m (a + 1) (j + 1) low (omega arith) (omega arith) (omega arith))

first_from : (w v place b m a j : ℕ) → IsLowest w v place → a ≡ b * 64 + j → j + m ≡ 64 → j ≤ place → filter (has_bit w) (range_with_len a m) ≡ (b * 64 + place) ∷ filter (has_bit v) (range_with_len a m)
first_from w v place b zero a j low e f l = absurd (omega (arith, low.within))
first_from w v place b (suc m) a j low e f l = elim (cases_lt j place) [
  | inl lower ↦
      ap (λ (t : Bool). cond t (a ∷ rest w) (rest w)) (test_at w b a j 0 e (omega (arith, low.within)) (low.before j lower))
      ∙ first_from w v place b m (a + 1) (j + 1) low (omega arith) (omega arith) (omega arith)
      ∙ ap (λ (t : Bool). (b * 64 + place) ∷ cond t (a ∷ rest v) (rest v)) (sym (test_at v b a j 0 e (omega (arith, low.within)) (low.others j (omega (arith, low.within)) (λ h. omega arith) ∙ low.before j lower)))
  | inr reached ↦
      ap (λ (t : Bool). cond t (a ∷ rest w) (rest w)) (test_at w b a place 1 (omega arith) low.within low.bit)
      ∙ ap₂ (λ (x : ℕ) (xs : List ℕ). x ∷ xs) (let here : a ≡ b * 64 + place = omega arith in here) (same_later w v place b m (a + 1) (j + 1) low (omega arith) (omega arith) (omega arith))
      ∙ ap (λ (t : Bool). (b * 64 + place) ∷ cond t (a ∷ rest v) (rest v)) (sym (test_at v b a place 0 (omega arith) low.within low.cleared))
]
  where
    rest : ℕ → List ℕ
    rest u = filter (has_bit u) (range_with_len (a + 1) m)

-- a word without its lowest bit
abbrev pub without_lowest : ℕ → ℕ
without_lowest w = bit_and w (bit_not w64 (1 * 2 ^ trailing_zeros w64 w % 2 ^ 64))

lowest_of : (w : ℕ) → 0 < w → w < 2 ^ 64 → IsLowest w (without_lowest w) (trailing_zeros w64 w)
lowest_of w h l =
    let found = bit_at-trailing_zeros w64 w h l in
    record {
      within = found.0;
      bit = found.1;
      before = found.2;
      cleared = bit_at_clear_same w64 w (trailing_zeros w64 w) found.0;
      others = λ i m d. bit_at_clear_other w64 w (trailing_zeros w64 w) found.0 i m d;
    }

pub numbers_lowest : (b w : ℕ) → 0 < w → w < 2 ^ 64 → numbers_of (b, w) ≡ (b * 64 + trailing_zeros w64 w) ∷ numbers_of (b, without_lowest w)
unfolding numbers_of
numbers_lowest b w h l = first_from w (without_lowest w) (trailing_zeros w64 w) b 64 (b * 64) 0 (lowest_of w h l) (omega arith) refl (omega arith)

pub lowest_smaller : (w : ℕ) → 0 < w → w < 2 ^ 64 → without_lowest w < w
lowest_smaller w h l =
    let low = lowest_of w h l in
    let at_most : without_lowest w ≤ w = and_le_l w (bit_not w64 (1 * 2 ^ trailing_zeros w64 w % 2 ^ 64)) in
    let differ : without_lowest w ≢ w = λ e. absurd (let k : 0 ≡ 1 = sym low.cleared ∙ ap (λ (u : ℕ). bit_at u (trailing_zeros w64 w)) e ∙ low.bit in omega arith) in
    omega arith

none_from : (a m : ℕ) → filter (has_bit 0) (range_with_len a m) ≡ []
none_from a zero = refl
none_from a (suc m) = ap (λ (x : ℕ). cond (nat_eq x 1) (a ∷ filter (has_bit 0) (range_with_len (a + 1) m)) (filter (has_bit 0) (range_with_len (a + 1) m))) (bit_at-zero (a % 64)) ∙ none_from (a + 1) m

pub numbers_none : (b : ℕ) → numbers_of (b, 0) ≡ []
unfolding numbers_of
numbers_none b = none_from (b * 64) 64
