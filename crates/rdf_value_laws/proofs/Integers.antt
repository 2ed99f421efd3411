-- Decimal texts are in the form of an integer, within the width where the number is, and write the number.
use Rattle.std.specs.Prelude.{◌≡◌, if◌then◌else◌, ℕ, ℤ, pos, negsuc, ◌+◌, ◌-◌, ◌*◌, ◌/◌, ◌%◌, ◌^◌, ◌<◌, ◌≤◌, ◌⊎◌, ◌*ℤ◌, unsigned_abs, Bool, true, false, ◌==◌, nat_le, List, [], ◌∷◌, ◌++◌, length, Option, Some, None, refl}
use Rattle.std.specs.Fmt.{decimal, signed_decimal}
use Rattle.std.specs.List.{list_all, prefix_len}
use Rattle.std.specs.Cmp.{first_so}
use Rattle.std.proofs.Common.{ap, ◌∙◌, suc, inl, inr, arith, lit<, length-drop, length-append}
use Rattle.std.proofs.Math.Nat.{pow-le-pow_right}
use Rattle.std.proofs.lemmas.Grind.{pow_more}
use Rattle.std.proofs.lemmas.Bool.{le-leb, leb-true, ne_eqb, cases_lt}
use Rattle.std.proofs.lemmas.Int.{ints}
use Rattle.std.proofs.lemmas.Fmt.{decimal_by_steps_wide}
use Rattle.std.proofs.lemmas.List.Folds.{list_all-append}
use Rattle.std.proofs.lemmas.List.Sums.{fold_push}
use Rattle.rdf_meaning.specs.declared.text.KnownDatatype.TheVariants.{Integer}
use Rattle.rdf_meaning.specs.Known.{known_bytes}
use Rattle.rdf_meaning.specs.Characters.{is_digit}
use Rattle.rdf_meaning.specs.Digits.{is_zero, without_leading_zeros, number_of_digits}
use Rattle.rdf_meaning.specs.Terms.{typed}
use Rattle.rdf_value_meaning.specs.Datatypes.{all_whole}
use Rattle.rdf_value_meaning.specs.Numbers.{Numeral, value_of_numeral, has_minus, without_sign, whole_numeral, integer_numeral, is_in_width, signed}
use Rattle.rdf_value_meaning.specs.Values.{Rank, numeral_in, rank_of, rank_of_numeral, class_of, value_of}

-- digits that write a number without zeros in front
record Writes (n : ℕ) (ds : List ℕ) : Type 0 where
  all : list_all is_digit ds ≡ true
  some : 0 < length ds
  value : number_of_digits ds ≡ n
  short : (10 ^ length ds ≤ 10 * n) ⊎ (length ds ≡ 1)

a_digit : (d : ℕ) → d < 10 → is_digit (48 + d) ≡ true
a_digit d small = grind (arith, le-leb)

number_push : (ds : List ℕ) (b : ℕ) → number_of_digits (ds ++ b ∷ []) ≡ number_of_digits ds * 10 + (b - 48)
number_push ds b = fold_push (λ n b. n * 10 + (b - 48)) 0 ds b

one : (n : ℕ) → n < 10 → Writes n ((48 + n) ∷ [])
one n small = record {
  all = rw (a_digit n small) refl;
  some = omega arith;
  value = omega arith;
  short = inr refl;
}

longer : (n k : ℕ) → 10 ≤ n → (10 ^ k ≤ 10 * (n / 10)) ⊎ (k ≡ 1) → 10 ^ (k + 1) ≤ 10 * n
longer n k big (inl h) = rw (pow_more 10 k) (omega (arith, h))
longer n k big (inr h) = rw h (omega arith)

more : (n : ℕ) (ds : List ℕ) → 10 ≤ n → Writes (n / 10) ds → Writes n (ds ++ ((48 + n % 10) ∷ []))
more n ds big w =
    let long : length (ds ++ ((48 + n % 10) ∷ [])) ≡ length ds + 1 = length-append ds ((48 + n % 10) ∷ []) in
    let v = w.value in
    record {
      all = rw (list_all-append is_digit ds ((48 + n % 10) ∷ []), w.all, a_digit (n % 10) (omega arith)) refl;
      some = omega (arith, long);
      value = rw (number_push ds (48 + n % 10)) (omega (arith, v));
      short = inl (rw long (longer n (length ds) big w.short));
    }

written : (n : ℕ) → n < 10 ^ 64 → Writes n (decimal n)
written n small = decimal_by_steps_wide Writes one more n small

not_longer : (n k : ℕ) → n < 10 ^ 18 → (10 ^ k ≤ 10 * n) ⊎ (k ≡ 1) → 19 ≤ k → ⊥
not_longer n k small (inl h) long = let p : 10 ^ 19 ≤ 10 ^ k = pow-le-pow_right (lit< tt) long in omega (arith, h, p)
not_longer n k small (inr h) long = omega (arith, h)

by_few : (k cut : ℕ) → cut ≤ k → (19 ≤ k → ⊥) → cut ≤ 18
by_few k cut le never = elim (cases_lt k 19) [ inl less ↦ omega (arith, le, less) | inr long ↦ absurd (never long) ]

in_width : (negative : Bool) (n : ℕ) (ds : List ℕ) → n < 10 ^ 18 → Writes n ds → is_in_width (record { is_negative = negative; whole = ds; fraction = [] }) ≡ true
in_width negative n ds small w =
    let cut : length (without_leading_zeros ds) ≤ length ds = rw (length-drop (prefix_len is_zero ds) ds) (omega arith) in
    let never : 19 ≤ length ds → ⊥ = not_longer n (length ds) small w.short in
    let few : length (without_leading_zeros ds) ≤ 18 = by_few (length ds) (length (without_leading_zeros ds)) cut never in
    rw (le-leb _ _ few) refl

-- digits have no sign
no_sign : (ds : List ℕ) → list_all is_digit ds ≡ true → (has_minus ds ≡ false) × (without_sign ds ≡ ds)
no_sign [] h = (refl, refl)
no_sign (b ∷ bs) h =
    let d : is_digit b ≡ true = first_so (is_digit b) (list_all is_digit bs) h in
    let low : 48 ≤ b = leb-true 48 b (first_so (nat_le 48 b) (nat_le b 57) d) in
    let minus : (b == 45) ≡ false = ne_eqb b 45 (omega (arith, low)) in
    let plus : (b == 43) ≡ false = ne_eqb b 43 (omega (arith, low)) in
    (minus, rw (plus, minus) refl)

as_numeral : (negative : Bool) (n : ℕ) (ds : List ℕ) → Writes n ds → whole_numeral negative ds ≡ Some (record { is_negative = negative; whole = ds; fraction = [] })
as_numeral negative n [] w = let s = w.some in absurd (omega (arith, s))
as_numeral negative n (b ∷ bs) w = rw w.all refl

plain_rank : (text : List ℕ) (n : Numeral) → integer_numeral text ≡ Some n → is_in_width n ≡ true → rank_of (typed text (known_bytes Integer)) ≡ (3, Some (value_of_numeral n))
plain_rank text n e fits = ap (λ (x : Option Numeral). rank_of_numeral (numeral_in all_whole x)) e ∙ ap (λ (b : Bool). if b then (3, Some (value_of_numeral n)) else (7, None)) fits

-- the numeral of a text without a sign
positive : (n : ℕ) (ds : List ℕ) → Writes n ds → integer_numeral ds ≡ Some (record { is_negative = false; whole = ds; fraction = [] })
positive n ds w = let s = no_sign ds w.all in rw (s.0, s.1) (as_numeral false n ds w)

-- the number of numerals without a fraction
number : (negative : Bool) (n : ℕ) (ds : List ℕ) → Writes n ds → value_of_numeral (record { is_negative = negative; whole = ds; fraction = [] }) ≡ signed negative (n * 10 ^ 9)
number negative n ds w =
    let v : number_of_digits ds * 10 ^ 9 + 0 ≡ n * 10 ^ 9 = let e = w.value in omega (arith, e) in
    ap (signed negative) v

rank : (n : ℤ) → unsigned_abs n < 10 ^ 18 → rank_of (typed (signed_decimal n) (known_bytes Integer)) ≡ (3, Some (n *ℤ pos (10 ^ 9)))
rank (pos n) small =
    let w = written n (omega (arith, small)) in
    plain_rank (decimal n) _ (positive n (decimal n) w) (in_width false n (decimal n) small w) ∙ ap (λ (z : ℤ). (3, Some z)) (number false n (decimal n) w ∙ omega (arith, ints))
rank (negsuc n) small =
    let w = written (suc n) (omega (arith, small)) in
    plain_rank (45 ∷ decimal (suc n)) _ (as_numeral true (suc n) (decimal (suc n)) w) (in_width true (suc n) (decimal (suc n)) (omega (arith, small)) w)
    ∙ ap (λ (z : ℤ). (3, Some z)) (number true (suc n) (decimal (suc n)) w ∙ omega (arith, ints))

pub class : (n : ℤ) → unsigned_abs n < 10 ^ 18 → class_of (typed (signed_decimal n) (known_bytes Integer)) ≡ 3
class n small = ap (λ (r : Rank). r.0) (rank n small)

pub value : (n : ℤ) → unsigned_abs n < 10 ^ 18 → value_of (typed (signed_decimal n) (known_bytes Integer)) ≡ Some (n *ℤ pos (10 ^ 9))
value n small = ap (λ (r : Rank). r.1) (rank n small)
