-- A word is read as the number of which it is the decimal.
use Rattle.std.proofs.Common.{◌≡◌, ◌⊎◌, inl, inr, ℕ, ◌+◌, ◌-◌, ◌*◌, ◌/◌, ◌%◌, ◌^◌, ◌<◌, ◌≤◌, Bool, true, false, List, [], ◌∷◌, ◌++◌, length, refl, sym, ap, subst, ◌∙◌, append_assoc, append-nil, arith}
use Rattle.std.specs.Prelude.{Some, None, ◌==◌, ◌&&◌, fold, decimal, nat_le, codes, take}
use Rattle.std.specs.Cmp.{first_so, second_so}
use Rattle.std.specs.List.{list_all}
use Rattle.std.proofs.lemmas.Bool.{cases_Bool, eqb-true, ne_eqb, leb-true, le-leb, false≢true}
use Rattle.std.proofs.lemmas.Fmt.{decimal_by_steps_wide, decimal_step_wide, decimal_digit, length-decimal-le_wide}
use Rattle.std.proofs.lemmas.List.Folds.{list_all-append}
use Rattle.std.proofs.lemmas.List.Sums.{fold-append}
use Rattle.std.proofs.lemmas.Option.{same_Some}
use Rattle.std.proofs.lemmas.Slice.Eq.{bytes_eq-Decides}
use Rattle.rdf_meaning.specs.Characters.{is_digit, is_between}
use Rattle.rdf_meaning.specs.Digits.{number_of_digits}
use Rattle.run_meaning.specs.Ranges.{IsWithin}
use Rattle.run_meaning.specs.Words.{Word, is_option, is_plain_number, number_in}

abbrev onto : ℕ → ℕ → ℕ
onto n b = n * 10 + (b - 48)

digit_bounds : (b : ℕ) → is_digit b ≡ true → (48 ≤ b) × (b ≤ 57)
digit_bounds b d = (leb-true 48 b (first_so _ _ d), leb-true b 57 (second_so (nat_le 48 b) _ d))

is_a_digit : (b : ℕ) → 48 ≤ b → b ≤ 57 → is_digit b ≡ true
is_a_digit b low high = let first : nat_le 48 b ≡ true = le-leb 48 b low in rw first (le-leb b 57 high)

-- what a number's decimal looks like

abbrev begins_zero : List ℕ → Bool
begins_zero [] = false
begins_zero (b ∷ bs) = b == 48

record Looks (n : ℕ) (ds : List ℕ) : Type 0 where
  digits : list_all is_digit ds ≡ true
  value : number_of_digits ds ≡ n
  front : 0 < n → begins_zero ds ≡ false

one_digit : (n : ℕ) → n < 10 → Looks n ((48 + n) ∷ [])
one_digit n small =
    let d : is_digit (48 + n) ≡ true = is_a_digit (48 + n) (omega arith) (omega arith) in
    record { digits = rw d refl; value = omega arith; front = λ some. ne_eqb (48 + n) 48 (λ e. omega arith) }

more_digits : (n : ℕ) (ds : List ℕ) → 10 ≤ n → Looks (n / 10) ds → Looks n (ds ++ ((48 + n % 10) ∷ []))
more_digits n ds large l =
    let d : is_digit (48 + n % 10) ≡ true = is_a_digit (48 + n % 10) (omega arith) (omega arith) in
    let all = l.digits in
    record {
      digits = list_all-append is_digit ds ((48 + n % 10) ∷ []) ∙ rw (all, d) refl;
      value = fold-append onto 0 ds ((48 + n % 10) ∷ []) ∙ omega (arith, l.value);
      front = λ some. first ds l.value (l.front (omega arith));
    }
  where
    first : (xs : List ℕ) → number_of_digits xs ≡ n / 10 → begins_zero xs ≡ false → begins_zero (xs ++ ((48 + n % 10) ∷ [])) ≡ false
    first [] v f = absurd (omega (arith, v, large))
    first (x ∷ xs) v f = f

looks : (n : ℕ) → n < 10 ^ 64 → Looks n (decimal n)
looks = decimal_by_steps_wide Looks one_digit more_digits

small_wide : (n : ℕ) → n ≤ 4294967295 → n < 10 ^ 64
small_wide n le = omega (arith, le)

plain_digits : (ds : List ℕ) → list_all is_digit ds ≡ true → begins_zero ds ≡ false → 0 < length ds → length ds ≤ 10 → is_plain_number ds ≡ true
plain_digits [] d f some short = absurd (omega (arith, some))
plain_digits (b ∷ bs) d f some short = let few : nat_le (length bs) 9 ≡ true = le-leb (length bs) 9 (omega (arith, short)) in rw (f, d) few

some_digit : (ds : List ℕ) (n : ℕ) → 0 < n → number_of_digits ds ≡ n → 0 < length ds
some_digit [] n some v = absurd (omega (arith, some, v))
some_digit (b ∷ bs) n some v = omega arith

plain_decimal : (n : ℕ) → n ≤ 4294967295 → is_plain_number (decimal n) ≡ true
plain_decimal n le = by (zero_or n)
  where
    zero_or : (m : ℕ) → (m ≡ 0) ⊎ (0 < m)
    zero_or m = grind arith

    by : (n ≡ 0) ⊎ (0 < n) → is_plain_number (decimal n) ≡ true
    by (inl e) = ap (λ m. is_plain_number (decimal m)) e ∙ ap is_plain_number (decimal_digit 0 (omega arith))
    by (inr some) =
        let l = looks n (small_wide n le) in
        plain_digits (decimal n) l.digits (l.front some) (some_digit (decimal n) n some l.value) (length-decimal-le_wide 10 n (omega arith) (omega (arith, le)) (small_wide n le))

is_within : (low high n : ℕ) → IsWithin low high n → is_between low high n ≡ true
is_within low high n w = let first : nat_le low n ≡ true = le-leb low n w.0 in rw first (le-leb n high w.1)

-- the decimal of a number in range is read as it
pub number_read : (low high n : ℕ) → high ≤ 4294967295 → IsWithin low high n → number_in low high (decimal n) ≡ Some n
number_read low high n narrow w =
    let le : n ≤ 4294967295 = omega (arith, narrow, w.1) in
    let plain = plain_decimal n le in
    let value : number_of_digits (decimal n) ≡ n = (looks n (small_wide n le)).value in
    let within = is_within low high n w in
    rw (plain, value, within) refl

-- no decimal is an option
pub decimal_named : (n : ℕ) → n ≤ 4294967295 → is_option (decimal n) ≡ false
decimal_named n le = digits_named (decimal n) (looks n (small_wide n le)).digits
  where
    head : List ℕ → ℕ
    head [] = 45
    head (b ∷ bs) = b

    digits_named : (ds : List ℕ) → list_all is_digit ds ≡ true → is_option ds ≡ false
    digits_named [] d = refl
    digits_named (b ∷ bs) d = by (cases_Bool (is_option (b ∷ bs)))
      where
        by : (is_option (b ∷ bs) ≡ true) ⊎ (is_option (b ∷ bs) ≡ false) → is_option (b ∷ bs) ≡ false
        by (inl e) =
            let first : 45 ≡ b = ap head ((bytes_eq-Decides (codes "--") (take 2 (b ∷ bs))).0 e) in
            absurd (omega (arith, first, (digit_bounds b (first_so _ _ d)).0))
        by (inr e) = e

-- and what is read as a number is its decimal

grows : (n : ℕ) (ds : List ℕ) → n ≤ fold onto n ds
grows n [] = omega arith
grows n (b ∷ bs) = omega (arith, grows (onto n b) bs)

decimal_on : (n : ℕ) (ds : List ℕ) → 0 < n → list_all is_digit ds ≡ true → fold onto n ds < 10 ^ 64 → decimal (fold onto n ds) ≡ decimal n ++ ds
decimal_on n [] some d small = sym (append-nil (decimal n))
decimal_on n (b ∷ bs) some d small =
    let m : ℕ = n * 10 + (b - 48) in
    let bounds = digit_bounds b (first_so _ _ d) in
    let front : m / 10 ≡ n = omega (arith, bounds.0, bounds.1) in
    let end : 48 + m % 10 ≡ b = omega (arith, bounds.0, bounds.1) in
    decimal_on m bs (omega (arith, some)) (second_so (is_digit b) _ d) small
    ∙ ap (λ (x : List ℕ). x ++ bs) (decimal_step_wide m (omega (arith, some)) (omega (arith, grows m bs, small)) ∙ (λ i. decimal (front i) ++ (end i ∷ [])))
    ∙ append_assoc (decimal n) (b ∷ []) bs

plain_spelled : (word : Word) → is_plain_number word ≡ true → number_of_digits word < 10 ^ 64 → word ≡ decimal (number_of_digits word)
plain_spelled [] p small = absurd (false≢true p)
plain_spelled (b ∷ bs) p small = by (cases_Bool (b == 48))
  where
    alone : (xs : List ℕ) → is_plain_number (48 ∷ xs) ≡ true → 48 ∷ xs ≡ decimal (number_of_digits (48 ∷ xs))
    alone [] q = sym (decimal_digit 0 (omega arith))
    alone (x ∷ xs) q = absurd (false≢true q)

    by : ((b == 48) ≡ true) ⊎ ((b == 48) ≡ false) → b ∷ bs ≡ decimal (number_of_digits (b ∷ bs))
    by (inl e) =
        let is = eqb-true b 48 e in
        let zero : is_plain_number (48 ∷ bs) ≡ true = subst (λ x. is_plain_number (x ∷ bs) ≡ true) is p in
        subst (λ x. x ∷ bs ≡ decimal (number_of_digits (x ∷ bs))) (sym is) (alone bs zero)
    by (inr e) =
        let both : (list_all is_digit (b ∷ bs) && nat_le (length bs) 9) ≡ true = rw e at p in
        let all : list_all is_digit (b ∷ bs) ≡ true = first_so _ _ both in
        let bounds = digit_bounds b (first_so _ _ all) in
        let other : b ≡ 48 → ⊥ = λ z. false≢true (sym e ∙ ap (λ x. x == 48) z) in
        let n : ℕ = 0 * 10 + (b - 48) in
        let one : decimal n ≡ b ∷ [] = decimal_digit n (omega (arith, bounds.0, bounds.1)) ∙ ap (λ x. x ∷ []) (omega (arith, bounds.0)) in
        sym (decimal_on n bs (some b bounds.0 other) (second_so (is_digit b) _ all) small ∙ ap (λ (x : List ℕ). x ++ bs) one)
      where
        some : (c : ℕ) → 48 ≤ c → (c ≡ 48 → ⊥) → 0 < 0 * 10 + (c - 48)
        some c low other = grind (arith, other)

pub number_spelled : (low high n : ℕ) (word : Word) → high ≤ 4294967295 → number_in low high word ≡ Some n → (word ≡ decimal n) × IsWithin low high n
number_spelled low high n word narrow h = by (cases_Bool (is_plain_number word)) (cases_Bool (is_between low high (number_of_digits word)))
  where
    by : (is_plain_number word ≡ true) ⊎ (is_plain_number word ≡ false) → (is_between low high (number_of_digits word) ≡ true) ⊎ (is_between low high (number_of_digits word) ≡ false)
        → (word ≡ decimal n) × IsWithin low high n
    by (inr e) other = let none : None ≡ Some n = rw e at h in cc
    by (inl e) (inr f) = let none : None ≡ Some n = rw (e, f) at h in cc
    by (inl e) (inl f) =
        let some : Some (number_of_digits word) ≡ Some n = rw (e, f) at h in
        let is = same_Some (number_of_digits word) n some in
        let within : IsWithin low high (number_of_digits word) = (leb-true low _ (first_so _ _ f), leb-true _ high (second_so (nat_le low (number_of_digits word)) _ f)) in
        (plain_spelled word e (small_wide _ (omega (arith, within.1, narrow))) ∙ ap decimal is, subst (IsWithin low high) is within)
