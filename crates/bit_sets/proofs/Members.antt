-- Which numbers a block's word has, and what a word that is or-ed in adds.
use Rattle.std.proofs.Common.{◌≡◌, ◌<◌, ◌≤◌, ◌+◌, ◌*◌, ◌/◌, ◌%◌, ◌^◌, max, ◌≢◌, ℕ, zero, suc, nat_eq, Bool, true, false, ◌&&◌, ◌||◌, List, [], ◌∷◌, ◌++◌, length, get_or, set, take, append_assoc, append-nil, inl, inr, refl, sym, ap, ◌∙◌, arith}
use Rattle.std.specs.Int.{bit_at}
use Rattle.std.specs.Int.RustNames.{bit_or}
use Rattle.std.specs.List.{flat_map, insert, list_any, range_with_len}
use Rattle.std.proofs.lemmas.Bool.{cases_eq, cases_lt}
use Rattle.std.proofs.lemmas.Bool.Decides.{nat_tests}
use Rattle.std.proofs.lemmas.List.Folds.{list_any-append}
use Rattle.std.proofs.lemmas.Map.Views.{any-filter_same}
use Rattle.std.proofs.lemmas.Nat.{one_shl}
use Rattle.std.proofs.lemmas.Nat.Bits.{bit_at-lt, bit_at_or, bit_at-pow_same, bit_at-pow_other}
use Rattle.bit_sets.specs.Blocks.{numbers_of, numbers_in}

-- ---- one block
pub range_before : (n a k : ℕ) → n < a → list_any (nat_eq n) (range_with_len a k) ≡ false
range_before n a zero h = refl
range_before n a (suc k) h =
    let first : nat_eq n a ≡ false = grind (arith, nat_tests) in
    rw first (range_before n (a + 1) k (omega arith))

pub range_after : (n a k : ℕ) → a + k ≤ n → list_any (nat_eq n) (range_with_len a k) ≡ false
range_after n a zero h = refl
range_after n a (suc k) h =
    let first : nat_eq n a ≡ false = grind (arith, nat_tests) in
    rw first (range_after n (a + 1) k (omega arith))

pub range_within : (n a k : ℕ) → a ≤ n → n < a + k → list_any (nat_eq n) (range_with_len a k) ≡ true
range_within n a zero h l = absurd (omega arith)
range_within n a (suc k) h l = by (nat_eq n a) refl (λ differ. range_within n (a + 1) k differ (omega arith))
  where
    by : (b : Bool) → nat_eq n a ≡ b → (a + 1 ≤ n → list_any (nat_eq n) (range_with_len (a + 1) k) ≡ true) → (b || list_any (nat_eq n) (range_with_len (a + 1) k)) ≡ true
    by true e rest = refl
    by false e rest = rest (grind (arith, nat_tests))

-- a block has a number exactly where its bit is 1
pub has_of : (n b w : ℕ) → list_any (nat_eq n) (numbers_of (b, w)) ≡ (nat_eq (bit_at w (n % 64)) 1 && list_any (nat_eq n) (range_with_len (b * 64) 64))
unfolding numbers_of
has_of n b w = any-filter_same (nat_eq n) (λ m. nat_eq (bit_at w (m % 64)) 1) (nat_eq (bit_at w (n % 64)) 1) same (range_with_len (b * 64) 64)
  where
    same : (m : ℕ) → nat_eq n m ≡ true → nat_eq (bit_at w (m % 64)) 1 ≡ nat_eq (bit_at w (n % 64)) 1
    same m e = let k : n ≡ m = grind (arith, nat_tests) in ap (λ (i : ℕ). nat_eq (bit_at w (i % 64)) 1) (sym k)

either : (x y : ℕ) → x < 2 → y < 2 → nat_eq (max x y) 1 ≡ (nat_eq x 1 || nat_eq y 1)
either zero zero h l = refl
either zero (suc zero) h l = refl
either (suc zero) zero h l = refl
either (suc zero) (suc zero) h l = refl
either (suc (suc x)) y h l = absurd (omega arith)
either x (suc (suc y)) h l = absurd (omega arith)

or_and : (a b r : Bool) → ((a || b) && r) ≡ ((a && r) || (b && r))
or_and true true true = refl
or_and true true false = refl
or_and true false true = refl
or_and true false false = refl
or_and false b r = refl

pub has_or : (n b v w : ℕ) → list_any (nat_eq n) (numbers_of (b, bit_or v w)) ≡ (list_any (nat_eq n) (numbers_of (b, v)) || list_any (nat_eq n) (numbers_of (b, w)))
has_or n b v w =
    let i = n % 64 in
    let within = list_any (nat_eq n) (range_with_len (b * 64) 64) in
    rw (has_of n b v, has_of n b w) (has_of n b (bit_or v w) ∙ ap (λ (t : Bool). t && within) (ap (λ (x : ℕ). nat_eq x 1) (bit_at_or v w i) ∙ either (bit_at v i) (bit_at w i) (bit_at-lt v i) (bit_at-lt w i)) ∙ or_and (nat_eq (bit_at v i) 1) (nat_eq (bit_at w i) 1) within)

-- ---- blocks
pub has_in : (n : ℕ) (e : ℕ × ℕ) (es : List (ℕ × ℕ)) → list_any (nat_eq n) (numbers_in (e ∷ es)) ≡ (list_any (nat_eq n) (numbers_of e) || list_any (nat_eq n) (numbers_in es))
unfolding numbers_in
has_in n e es = list_any-append (nat_eq n) (numbers_of e) (numbers_in es)

pub or_last : (a b c : Bool) → ((a || b) || c) ≡ ((a || c) || b)
or_last true b c = refl
or_last false true true = refl
or_last false true false = refl
or_last false false true = refl
or_last false false false = refl

pub or_assoc : (a b c : Bool) → (a || (b || c)) ≡ ((a || b) || c)
or_assoc true b c = refl
or_assoc false b c = refl

pub or_swap : (a b : Bool) → (a || b) ≡ (b || a)
or_swap true true = refl
or_swap true false = refl
or_swap false true = refl
or_swap false false = refl

-- a word or-ed into the one at a place
pub has_set : (n : ℕ) (es : List (ℕ × ℕ)) (i : ℕ) (x : ℕ × ℕ) (w : ℕ) → i < length es → x ≡ get_or es i x
    → list_any (nat_eq n) (numbers_in (set es i (x.0, bit_or x.1 w))) ≡ (list_any (nat_eq n) (numbers_in es) || list_any (nat_eq n) (numbers_of (x.0, w)))
has_set n [] i x w l e = absurd (omega arith)
has_set n (y ∷ es) zero x w l e =
    let rest = list_any (nat_eq n) (numbers_in es) in
    has_in n (x.0, bit_or x.1 w) es
    ∙ ap (λ (b : Bool). b || rest) (has_or n x.0 x.1 w)
    ∙ or_last (list_any (nat_eq n) (numbers_of x)) (list_any (nat_eq n) (numbers_of (x.0, w))) rest
    ∙ ap (λ (b : Bool). b || list_any (nat_eq n) (numbers_of (x.0, w))) (ap (λ (z : ℕ × ℕ). list_any (nat_eq n) (numbers_of z) || rest) e ∙ sym (has_in n y es))
has_set n (y ∷ es) (suc i) x w l e =
    let more = list_any (nat_eq n) (numbers_of (x.0, w)) in
    has_in n y (set es i (x.0, bit_or x.1 w))
    ∙ ap (λ (b : Bool). list_any (nat_eq n) (numbers_of y) || b) (has_set n es i x w (omega arith) e)
    ∙ or_assoc (list_any (nat_eq n) (numbers_of y)) (list_any (nat_eq n) (numbers_in es)) more
    ∙ ap (λ (b : Bool). b || more) (sym (has_in n y es))

-- one more block
pub has_insert : (n : ℕ) (es : List (ℕ × ℕ)) (i : ℕ) (x : ℕ × ℕ)
    → list_any (nat_eq n) (numbers_in (insert es i x)) ≡ (list_any (nat_eq n) (numbers_in es) || list_any (nat_eq n) (numbers_of x))
has_insert n es zero x = has_in n x es ∙ or_swap (list_any (nat_eq n) (numbers_of x)) (list_any (nat_eq n) (numbers_in es))
has_insert n [] (suc i) x = has_in n x [] ∙ or_swap (list_any (nat_eq n) (numbers_of x)) (list_any (nat_eq n) (numbers_in []))
has_insert n (y ∷ es) (suc i) x =
    let more = list_any (nat_eq n) (numbers_of x) in
    has_in n y (insert es i x)
    ∙ ap (λ (b : Bool). list_any (nat_eq n) (numbers_of y) || b) (has_insert n es i x)
    ∙ or_assoc (list_any (nat_eq n) (numbers_of y)) (list_any (nat_eq n) (numbers_in es)) more
    ∙ ap (λ (b : Bool). b || more) (sym (has_in n y es))

-- the numbers of one more block of a list
pub has_more : (n : ℕ) (es : List (ℕ × ℕ)) (i : ℕ) (d : ℕ × ℕ) → i < length es
    → list_any (nat_eq n) (numbers_in (take (suc i) es)) ≡ (list_any (nat_eq n) (numbers_in (take i es)) || list_any (nat_eq n) (numbers_of (get_or es i d)))
has_more n [] i d l = absurd (omega arith)
has_more n (y ∷ es) zero d l = has_in n y [] ∙ or_swap (list_any (nat_eq n) (numbers_of y)) (list_any (nat_eq n) (numbers_in []))
has_more n (y ∷ es) (suc i) d l =
    let here = list_any (nat_eq n) (numbers_of (get_or es i d)) in
    has_in n y (take (suc i) es)
    ∙ ap (λ (b : Bool). list_any (nat_eq n) (numbers_of y) || b) (has_more n es i d (omega arith))
    ∙ or_assoc (list_any (nat_eq n) (numbers_of y)) (list_any (nat_eq n) (numbers_in (take i es))) here
    ∙ ap (λ (b : Bool). b || here) (sym (has_in n y (take i es)))

pub numbers_more : (es : List (ℕ × ℕ)) (i : ℕ) (d : ℕ × ℕ) → i < length es → numbers_in (take (suc i) es) ≡ numbers_in (take i es) ++ numbers_of (get_or es i d)
unfolding numbers_in
numbers_more [] i d l = absurd (omega arith)
numbers_more (y ∷ es) zero d l = append-nil (numbers_of y)
numbers_more (y ∷ es) (suc i) d l = ap (λ (ns : List ℕ). numbers_of y ++ ns) (numbers_more es i d (omega arith)) ∙ sym (append_assoc (numbers_of y) (flat_map numbers_of (take i es)) (numbers_of (get_or es i d)))

-- ---- one number
pub has_one : (n m : ℕ) → list_any (nat_eq n) (numbers_of (m / 64, 1 * 2 ^ (m % 64) % 2 ^ 64)) ≡ nat_eq n m
has_one n m =
    let k = m % 64 in
    let below : k < 64 = omega arith in
    rw (one_shl k 64 below) (has_of n (m / 64) (2 ^ k) ∙ by (nat_eq n m) refl)
  where
    Here : Bool → Type 0
    Here b = (nat_eq (bit_at (2 ^ (m % 64)) (n % 64)) 1 && list_any (nat_eq n) (range_with_len (m / 64 * 64) 64)) ≡ b

    apart : (b : Bool) → (b && false) ≡ false
    apart true = refl
    apart false = refl

    by : (b : Bool) → nat_eq n m ≡ b → Here b
    by true e =
        let same : n ≡ m = grind (arith, nat_tests) in
        let bit : bit_at (2 ^ (m % 64)) (n % 64) ≡ 1 = rw same (bit_at-pow_same (m % 64)) in
        rw (bit, range_within n (m / 64 * 64) 64 (omega arith) (omega arith)) refl
    by false e = elim (cases_eq (n / 64) (m / 64)) [
      | inl same ↦
          let differ : n % 64 ≢ m % 64 = λ h. absurd (grind (arith, nat_tests)) in
          rw (bit_at-pow_other (m % 64) (n % 64) differ) refl
      | inr other ↦ elim (cases_lt n (m / 64 * 64)) [
        | inl lower ↦ rw (range_before n (m / 64 * 64) 64 lower) (apart _)
        | inr higher ↦ rw (range_after n (m / 64 * 64) 64 (omega arith)) (apart _)
      ]
    ]

pub or_nothing : (a : Bool) → (a || false) ≡ a
or_nothing true = refl
or_nothing false = refl
