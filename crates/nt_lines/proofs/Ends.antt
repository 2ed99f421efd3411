-- The first line of a text and what follows it, by the place of its end.
use Rattle.std.proofs.Common.{◌≡◌, ℕ, suc, ◌+◌, ◌-◌, ◌<◌, ◌≤◌, Bool, true, false, not, ◌||◌, cond, eqb, List, [], ◌∷◌, length, get_or, take, drop, refl, arith}
use Rattle.std.proofs.Math.Numerals.{one-add, add-one}
use Rattle.std.proofs.lemmas.List.Sums.{prefix_len-le-length}
use Rattle.std.proofs.lemmas.Grind.{common_steps}
use Rattle.std.proofs.Math.Nat.{add-zero}
use Rattle.std.specs.List.{prefix_len}
use Rattle.line_meaning.specs.Lines.{Line, lines_from, onto_first, is_inner}

abbrev first : ℕ → List ℕ → Line
first n text = record { number = n; text = text }

-- the lines after an end at k
abbrev pub after_end : ℕ → List ℕ → ℕ → List Line
after_end n bytes k = lines_from (n + cond (eqb (get_or bytes k 0) 10) 1 0) (drop (suc k) bytes)

by_cases : (f r : Bool) (n b : ℕ) (bs : List ℕ) (k : ℕ) → eqb b 10 ≡ f → k ≡ cond (not (f || r)) (1 + prefix_len is_inner bs) 0 → k < length (b ∷ bs)
    → (prefix_len is_inner bs < length bs → lines_from n bs ≡ first n (take (prefix_len is_inner bs) bs) ∷ after_end n bs (prefix_len is_inner bs))
    → cond f (first n [] ∷ lines_from (n + 1) bs) (cond r (first n [] ∷ lines_from n bs) (onto_first n b (lines_from n bs))) ≡ first n (take k (b ∷ bs)) ∷ after_end n (b ∷ bs) k
by_cases true r n b bs k t e lt ih = rw (e, t) refl
by_cases false true n b bs k t e lt ih = rw (e, t, add-zero) refl
by_cases false false n b bs k t e lt ih = rw (e, one-add, ih (omega arith)) refl

pub first_line : (n : ℕ) (bytes : List ℕ) → prefix_len is_inner bytes < length bytes → lines_from n bytes ≡ first n (take (prefix_len is_inner bytes) bytes) ∷ after_end n bytes (prefix_len is_inner bytes)
first_line n [] lt = absurd (omega arith)
first_line n (b ∷ bs) lt = by_cases (eqb b 10) (eqb b 13) n b bs _ refl refl lt (first_line n bs)

last_by_cases : (f r : Bool) (n b : ℕ) (bs : List ℕ) → cond (not (f || r)) (1 + prefix_len is_inner bs) 0 ≡ suc (length bs)
    → (prefix_len is_inner bs ≡ length bs → lines_from n bs ≡ first n bs ∷ [])
    → cond f (first n [] ∷ lines_from (n + 1) bs) (cond r (first n [] ∷ lines_from n bs) (onto_first n b (lines_from n bs))) ≡ first n (b ∷ bs) ∷ []
last_by_cases true r n b bs e ih = absurd (omega arith)
last_by_cases false true n b bs e ih = absurd (omega arith)
last_by_cases false false n b bs e ih = rw (ih (omega arith)) refl

pub last_line : (n : ℕ) (bytes : List ℕ) → prefix_len is_inner bytes ≡ length bytes → lines_from n bytes ≡ first n bytes ∷ []
last_line n [] e = refl
last_line n (b ∷ bs) e = last_by_cases (eqb b 10) (eqb b 13) n b bs e (last_line n bs)

pub split_at_end : (n : ℕ) (bytes : List ℕ) (len rise : ℕ) → len ≡ prefix_len is_inner bytes → len < length bytes → rise ≡ cond (eqb (get_or bytes len 0) 10) 1 0
    → lines_from n bytes ≡ first n (take len bytes) ∷ lines_from (n + rise) (drop (len + 1) bytes)
split_at_end n bytes len rise e lt r = rw (r, e, add-one) (first_line n bytes (rw e at lt))

pub no_end : (n : ℕ) (bytes : List ℕ) (len : ℕ) → len ≡ prefix_len is_inner bytes → length bytes ≤ len → lines_from n bytes ≡ first n bytes ∷ []
no_end n bytes len e le = last_line n bytes (omega (arith, prefix_len-le-length is_inner bytes))

-- the part from a place on, as it is taken
pub rest_from : (k : ℕ) (bytes : List ℕ) → take (length bytes - k) (drop k bytes) ≡ drop k bytes
rest_from k bytes = grind (arith, common_steps)
