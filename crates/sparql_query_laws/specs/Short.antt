-- A number of a text of digits that isn't too long is below 10 ^ 18.
use Rattle.std.specs.Prelude.{◌≡◌, ◌<◌, ◌≤◌, ℕ, zero, suc, ◌+◌, ◌-◌, ◌*◌, ◌^◌, Bool, true, false, ◌==◌, if◌then◌else◌, List, [], ◌∷◌, length, refl}
use Rattle.std.proofs.Common.{ap, arith}
use Rattle.std.proofs.lemmas.Bool.{ltb-false}
use Rattle.rdf_meaning.specs.Characters.{is_digit}
use Rattle.sparql_query_meaning.specs.Lexemes.{digit, decimal, without_zeros, is_long, number_of}

tens : ℕ → ℕ
tens zero = 1
tens (suc n) = 10 * tens n

digit_small : (c : ℕ) → digit c ≤ 9
digit_small c = by (is_digit c) refl
  where
    by : (b : Bool) → is_digit c ≡ b → (if b then c - 48 else 0) ≤ 9
    by true e = grind (arith, e)
    by false e = omega arith

decimal_small : (cs : List ℕ) (k n : ℕ) → n < tens k → decimal n cs < tens (k + length cs)
unfolding tens
decimal_small [] k n h = let e : tens k ≡ tens (k + 0) = ap tens (let z : k ≡ k + 0 = omega arith in z) in omega (arith, e, h)
decimal_small (c ∷ cs) k n h =
    let d = digit_small c in
    let t : tens (suc k) ≡ 10 * tens k = refl in
    let less = decimal_small cs (suc k) (10 * n + digit c) (omega (arith, d, h, t)) in
    let e : tens (suc k + length cs) ≡ tens (k + suc (length cs)) = ap tens (let z : suc k + length cs ≡ k + suc (length cs) = omega arith in z) in
    omega (arith, less, e)

tens_grow : (n k : ℕ) → tens n ≤ tens (k + n)
unfolding tens
tens_grow n zero = let e : tens n ≡ tens (0 + n) = ap tens (let z : n ≡ 0 + n = omega arith in z) in omega (arith, e)
tens_grow n (suc k) =
    let h = tens_grow n k in
    let e : tens (suc k + n) ≡ 10 * tens (k + n) = ap tens (let z : suc k + n ≡ suc (k + n) = omega arith in z) in
    omega (arith, h, e)

tens_most : (n : ℕ) → n ≤ 18 → tens n ≤ tens 18
tens_most n h = let g = tens_grow n (18 - n) in let e : tens (18 - n + n) ≡ tens 18 = ap tens (let z : 18 - n + n ≡ 18 = omega (arith, h) in z) in omega (arith, g, e)

few_digits : (cs : List ℕ) → length cs ≤ 18 → decimal 0 cs < tens 18
unfolding tens
few_digits cs h =
    let less = decimal_small cs 0 0 (omega arith) in
    let e : tens (0 + length cs) ≡ tens (length cs) = ap tens (let z : 0 + length cs ≡ length cs = omega arith in z) in
    let most = tens_most (length cs) h in
    omega (arith, less, e, most)

few_behind_zeros : (cs : List ℕ) → length (without_zeros cs) ≤ 18 → decimal 0 cs < tens 18
few_behind_zeros [] h = few_digits [] h
few_behind_zeros (c ∷ cs) h = by (c == 48) refl h (few_behind_zeros cs)
  where
    by : (b : Bool) → (c == 48) ≡ b → length (if b then without_zeros cs else c ∷ cs) ≤ 18 → (length (without_zeros cs) ≤ 18 → decimal 0 cs < tens 18) → decimal 0 (c ∷ cs) < tens 18
    by true e few later =
        let none : digit c ≡ 0 = grind (arith, e) in
        let same : decimal 0 cs ≡ decimal 0 (c ∷ cs) = ap (λ d. decimal d cs) (let z : 0 ≡ 10 * 0 + digit c = omega (arith, none) in z) in
        let less = later few in
        omega (arith, less, same)
    by false e few later = few_digits (c ∷ cs) few

tens_all : tens 18 ≡ 10 ^ 18
unfolding tens
tens_all = refl

pub number_small : (text : List ℕ) → number_of text < 10 ^ 18
number_small text = by (is_long text) refl
  where
    by : (b : Bool) → is_long text ≡ b → (if b then 0 else decimal 0 text) < 10 ^ 18
    by true e = omega arith
    by false e = let less = few_behind_zeros text (ltb-false 18 (length (without_zeros text)) e) in let all = tens_all in omega (arith, less, all)
