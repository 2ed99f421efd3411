use Rattle.std.proofs.Common.{◌≡◌, ℕ, ◌+◌, ◌*◌, ◌^◌, ◌≤◌, ◌<◌, ◌-◌, min, Bool, true, false, List, [], ◌∷◌, ◌++◌, take, drop, fold, refl, sym, ◌∙◌, ap, arith, reverse, lit≤, lit<, cond, suc}
use Rattle.std.proofs.lemmas.Bool.Decides.{nat_tests}
use Rattle.std.proofs.Math.Nat.{pow-le-pow_right}
use Rattle.std.proofs.lemmas.Grind.{pow_more}
use Rattle.std.proofs.lemmas.List.{reverse-append, reverse-reverse}
use Rattle.std.specs.List.{prefix_len}
use Rattle.rdf_meaning.specs.Digits.{number_of_digits, without_leading_zeros, without_trailing_zeros, is_zero}

-- so far a number with at most i digits, each at most 207
pub record IsBelow (n i : ℕ) : Type 0 where
  pub bound : n + 23 ≤ 23 * 10 ^ i

pub below_none : IsBelow 0 0
below_none = record { bound = lit≤ tt }

pub below_next : (n d i : ℕ) → IsBelow n i → d ≤ 207 → IsBelow (n * 10 + d) (i + 1)
below_next n d i b le = let h = b.bound in record { bound = rw (pow_more 10 i) (omega (arith, h)) }

-- a number of at most 18 digits
pub few_digits : (n i : ℕ) → n < 23 * 10 ^ i → i ≤ 18 → n < 23 * 10 ^ 18
few_digits n i h le = let p : 10 ^ i ≤ 10 ^ 18 = pow-le-pow_right (lit< tt) le in omega (arith, h, p)

-- the digits that a loop has read, where the number stays at the greatest one
pub record IsClamped (digits : List ℕ) (n i : ℕ) : Type 0 where
  pub value : n ≡ min (number_of_digits (take i digits)) (2 ^ 128 - 1)
  pub below : IsBelow n i

-- the same, where the number fits
pub record IsCount (digits : List ℕ) (n i : ℕ) : Type 0 where
  pub value : n ≡ number_of_digits (take i digits)
  pub below : IsBelow n i

drop_one_more : (n x : ℕ) (xs : List ℕ) → drop (1 + n) (x ∷ xs) ≡ drop n xs
drop_one_more n x xs = let e : 1 + n ≡ suc n = omega arith in ap (λ k. drop k (x ∷ xs)) e

is_zero-true : (b : ℕ) → is_zero b ≡ true → b ≡ 48
is_zero-true b e = grind (arith, nat_tests)

abbrev counted_from : ℕ → List ℕ → ℕ
counted_from k bs = fold (λ n b. n * 10 + (b - 48)) k bs

cut_front : (b : ℕ) (bs : List ℕ) (zero : Bool) → is_zero b ≡ zero → number_of_digits (without_leading_zeros bs) ≡ number_of_digits bs
    → number_of_digits (drop (cond zero (1 + prefix_len is_zero bs) 0) (b ∷ bs)) ≡ counted_from (0 + (b - 48)) bs
cut_front b bs true e ih =
    let at : b ≡ 48 = is_zero-true b e in
    let start : 0 ≡ 0 + (b - 48) = omega arith in
    ap number_of_digits (drop_one_more (prefix_len is_zero bs) b bs) ∙ ih ∙ ap (λ k. counted_from k bs) start
cut_front b bs false e ih = refl

-- zeros in front count nothing
pub zeros_count_nothing : (ds : List ℕ) → number_of_digits (without_leading_zeros ds) ≡ number_of_digits ds
zeros_count_nothing [] = refl
zeros_count_nothing (b ∷ bs) = cut_front b bs (is_zero b) refl (zeros_count_nothing bs)

pub trailing_zero : (xs : List ℕ) → without_trailing_zeros (xs ++ 48 ∷ []) ≡ without_trailing_zeros xs
trailing_zero xs = rw (reverse-append xs (48 ∷ [])) (ap (λ (t : List ℕ). reverse t) (drop_one_more (prefix_len is_zero (reverse xs)) 48 (reverse xs)))

pub trailing_other : (xs : List ℕ) (b : ℕ) → is_zero b ≡ false → without_trailing_zeros (xs ++ b ∷ []) ≡ xs ++ b ∷ []
trailing_other xs b e =
    let r : reverse (xs ++ b ∷ []) ≡ b ∷ reverse xs = reverse-append xs (b ∷ []) in
    let kept : without_leading_zeros (b ∷ reverse xs) ≡ b ∷ reverse xs = rw e refl in
    ap (λ (t : List ℕ). reverse (without_leading_zeros t)) r ∙ ap (λ (t : List ℕ). reverse t) (kept ∙ sym r) ∙ reverse-reverse (xs ++ b ∷ [])
