-- Numbers of at most 18 digits.
use Rattle.std.proofs.Common.{ℕ, ◌≡◌, ◌≤◌, ◌<◌, ◌+◌, ◌-◌, ◌*◌, zero, suc, Bool, true, false, List, [], ◌∷◌, length, refl, sym, ap, ◌∙◌, arith, if◌then◌else◌, ◌==◌, ◌^◌}
use Rattle.sparql_query_meaning.specs.Lexemes.{digit, decimal, without_zeros}

-- a power of ten
abbrev pub tens : ℕ → ℕ
tens zero = 1
tens (suc n) = 10 * tens n

tens_rise : (n k : ℕ) → tens n ≤ tens (k + n)
tens_rise n zero = let e : tens (0 + n) ≡ tens n = ap tens (let z : 0 + n ≡ n = omega arith in z) in omega (arith, e)
tens_rise n (suc k) =
    let h = tens_rise n k in
    let e : tens (suc k + n) ≡ 10 * tens (k + n) = ap tens (let z : suc k + n ≡ suc (k + n) = omega arith in z) in
    omega (arith, e, h)

tens_most : (n k : ℕ) → n ≤ k → tens n ≤ tens k
tens_most n k h = let r = tens_rise n (k - n) in let e : tens (k - n + n) ≡ tens k = ap tens (let z : k - n + n ≡ k = omega arith in z) in omega (arith, r, e)

zero_digit : (c : ℕ) (cs : List ℕ) → (c == 48) ≡ true → decimal 0 cs ≡ decimal 0 (c ∷ cs)
zero_digit c cs e = let n : digit c ≡ 0 = grind (arith, e) in ap (λ d. decimal d cs) (let z : 0 ≡ 10 * 0 + digit c = omega (arith, n) in z)

pub zeros_add_nothing : (cs : List ℕ) → decimal 0 (without_zeros cs) ≡ decimal 0 cs
zeros_add_nothing [] = refl
zeros_add_nothing (c ∷ cs) = let h = zeros_add_nothing cs in by (c == 48) refl h
  where
    by : (b : Bool) → (c == 48) ≡ b → decimal 0 (without_zeros cs) ≡ decimal 0 cs → decimal 0 (if b then without_zeros cs else c ∷ cs) ≡ decimal 0 (c ∷ cs)
    by true e h = h ∙ zero_digit c cs e
    by false e h = refl

-- a number that has so many digits less than 18
abbrev pub IsShort : ℕ → List ℕ → Type 0
IsShort n rest = (length rest ≤ 18) × (n < tens (18 - length rest))

pub short_now : (rest : List ℕ) → length rest ≤ 18 → IsShort 0 rest
short_now rest h = let e = tens_most 0 (18 - length rest) (omega arith) in let z : tens 0 ≡ 1 = refl in (h, omega (arith, e, z))

pub short_step : (n c d : ℕ) (rest after : List ℕ) → rest ≡ c ∷ after → IsShort n rest → d ≤ 9 → IsShort (10 * n + d) after
short_step n c d rest after e s h =
    let l : length rest ≡ suc (length after) = ap length e in
    let i : 18 - length after ≡ suc (18 - length rest) = omega (arith, l, s.0) in
    let t : tens (18 - length after) ≡ 10 * tens (18 - length rest) = ap tens i in
    (omega (arith, l, s.0), omega (arith, t, s.1, h))

pub short_fits : (n : ℕ) (rest : List ℕ) → 1 ≤ length rest → IsShort n rest → 10 * n + 9 < 2 ^ 64
short_fits n rest some s =
    let t = tens_most (18 - length rest) 17 (omega (arith, some)) in
    let z : tens 17 ≡ 100000000000000000 = refl in
    omega (arith, s.1, t, z)

pub decimal_step : (all rest after : List ℕ) (n c d : ℕ) → decimal n rest ≡ decimal 0 all → rest ≡ c ∷ after → d ≡ digit c → decimal (10 * n + d) after ≡ decimal 0 all
decimal_step all rest after n c d h e k = ap (λ (x : ℕ). decimal (10 * n + x) after) k ∙ ap (decimal n) (sym e) ∙ h

pub ruleset decimal_paths = (short_now, short_step, decimal_step)
