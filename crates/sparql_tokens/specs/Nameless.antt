-- Where no prefix of a name begins.
use Rattle.std.proofs.lemmas.Bool.{true≢false, false≢true}
use Rattle.std.proofs.Common.{if◌then◌else◌, ◌==◌, ℕ, zero, suc, ◌+◌, ◌-◌, ◌≡◌, ◌≤◌, ◌<◌, ◌⊎◌, Bool, true, false, List, [], ◌∷◌, length, drop, Option, Some, None, refl, sym, ap, ◌∙◌, arith, inl, inr, nat_lt}
use Rattle.std.proofs.lemmas.List.{length-drop}
use Rattle.sparql_meaning.specs.Tokens.{to_colon, one_more}
use Rattle.sparql_tokens.specs.Table.{goes_on}

-- from none of so many of the first characters
pub data IsNameless (n : ℕ) (cs : List ℕ) : Type 0 where
  is_nameless : ((k : ℕ) → k < n → to_colon (drop k cs) ≡ None) → IsNameless n cs

-- the first list is an end of the second
pub data IsEnd (us cs : List ℕ) : Type 0 where
  is_end : us ≡ drop (length cs - length us) cs → length us ≤ length cs → IsEnd us cs

-- the characters before a place go on with a prefix
pub data Passed (n : ℕ) (rest cs : List ℕ) : Type 0 where
  passed : drop n cs ≡ rest → (to_colon rest ≡ None → (k : ℕ) → k < n → to_colon (drop k cs) ≡ None) → Passed n rest cs

pub none_passed : (cs : List ℕ) → Passed 0 cs cs
none_passed cs = passed refl (λ h k l. absurd (omega arith))

pub no_run : (cs : List ℕ) → IsNameless 0 cs
no_run cs = is_nameless (λ k l. absurd (omega arith))

drop_one : (n : ℕ) (cs rest : List ℕ) (c : ℕ) → drop n cs ≡ c ∷ rest → drop (suc n) cs ≡ rest
drop_one zero [] rest c h = absurd cc
drop_one zero (d ∷ cs) rest c h = cc
drop_one (suc n) [] rest c h = absurd cc
drop_one (suc n) (d ∷ cs) rest c h = drop_one n cs rest c h

no_colon : (c : ℕ) → (c ≡ 58 → ⊥) → (c == 58) ≡ false
no_colon c h = by (c == 58) refl
  where
    by : (b : Bool) → (c == 58) ≡ b → b ≡ false
    by true e = absurd (h (grind (arith, e)))
    by false e = refl

went : (b d : Bool) (x y : Option ℕ) → b ≡ false → d ≡ true → (if b then x else (if d then y else None)) ≡ y
went true d x y e f = absurd (true≢false e)
went false true x y e f = refl
went false false x y e f = absurd (false≢true f)

stopped : (b d : Bool) (x y : Option ℕ) → b ≡ false → d ≡ false → (if b then x else (if d then y else None)) ≡ None
stopped true d x y e f = absurd (true≢false e)
stopped false true x y e f = absurd (true≢false f)
stopped false false x y e f = refl

goes_to : (c : ℕ) (cs : List ℕ) → (c ≡ 58 → ⊥) → goes_on c cs ≡ true → to_colon (c ∷ cs) ≡ one_more (to_colon cs)
goes_to c cs h g = went (c == 58) (goes_on c cs) (Some 0) (one_more (to_colon cs)) (no_colon c h) g

stops_at : (c : ℕ) (cs : List ℕ) → (c ≡ 58 → ⊥) → goes_on c cs ≡ false → to_colon (c ∷ cs) ≡ None
stops_at c cs h g = stopped (c == 58) (goes_on c cs) (Some 0) (one_more (to_colon cs)) (no_colon c h) g

last_or_before : (k n : ℕ) → k < n + 1 → (k < n) ⊎ (k ≡ n)
last_or_before k n h = by (nat_lt k n) refl
  where
    by : (b : Bool) → nat_lt k n ≡ b → (k < n) ⊎ (k ≡ n)
    by true e = inl (grind (arith, e))
    by false e = inr (grind (arith, e, h))

pub passed_more : (n c : ℕ) (rest after cs : List ℕ) → Passed n rest cs → rest ≡ c ∷ after → (c ≡ 58 → ⊥) → goes_on c after ≡ true → Passed (n + 1) after cs
passed_more n c rest after cs (passed d f) r h g =
    let one : n + 1 ≡ suc n = omega arith in
    passed (ap (λ (z : ℕ). drop z cs) one ∙ drop_one n cs after c (d ∙ r))
    (λ e. let here : to_colon rest ≡ None = ap to_colon r ∙ goes_to c after h g ∙ ap one_more e in
    λ k l. elim (last_or_before k n l) [ inl m ↦ f here k m | inr m ↦ ap (λ (z : ℕ). to_colon (drop z cs)) m ∙ ap to_colon d ∙ here ])

pub run_stops : (n c : ℕ) (rest after cs : List ℕ) → Passed n rest cs → rest ≡ c ∷ after → (c ≡ 58 → ⊥) → goes_on c after ≡ false → IsNameless n cs
run_stops n c rest after cs (passed d f) r h g = is_nameless (f (ap to_colon r ∙ stops_at c after h g))

pub run_ends : (n : ℕ) (rest cs : List ℕ) → Passed n rest cs → length rest ≡ 0 → IsNameless n cs
run_ends n [] cs (passed d f) e = is_nameless (f refl)
run_ends n (c ∷ rest) cs p e = absurd (omega arith)

pub ruleset nameless_paths = (none_passed, no_run, passed_more, run_stops, run_ends)

-- ---- ends of a text

pub whole_end : (cs : List ℕ) → IsEnd cs cs
whole_end cs = is_end (let e : length cs - length cs ≡ 0 = omega arith in sym (ap (λ (z : ℕ). drop z cs) e)) (omega arith)

pub later_end : (c : ℕ) (rest after cs : List ℕ) → IsEnd rest cs → rest ≡ c ∷ after → IsEnd after cs
later_end c rest after cs (is_end e l) r =
    let n : length rest ≡ suc (length after) = ap length r in
    let m : length cs - length after ≡ suc (length cs - length rest) = omega (arith, n, l) in
    is_end (sym (ap (λ (z : ℕ). drop z cs) m ∙ drop_one (length cs - length rest) cs after c (sym e ∙ r))) (omega (arith, n, l))

pub ruleset end_paths = (whole_end, later_end)

drop_nothing : (n : ℕ) (cs : List ℕ) → cs ≡ [] → drop n cs ≡ cs
drop_nothing zero cs h = refl
drop_nothing (suc n) [] h = refl
drop_nothing (suc n) (c ∷ cs) h = absurd cc

drop_both : (n m : ℕ) (cs : List ℕ) → drop n (drop m cs) ≡ drop (m + n) cs
drop_both n zero cs = ap (λ (z : ℕ). drop z cs) (omega arith)
drop_both n (suc m) [] = drop_nothing n [] refl ∙ sym (drop_nothing (suc m + n) [] refl)
drop_both n (suc m) (c ∷ cs) = drop_both n m cs ∙ (let e : suc m + n ≡ suc (m + n) = omega arith in ap (λ (z : ℕ). drop z (c ∷ cs)) (sym e))

pub end_behind : (m : ℕ) (xs ys zs : List ℕ) → ys ≡ drop m xs → m ≤ length xs → IsEnd zs ys → IsEnd zs xs
end_behind m xs ys zs y w (is_end z l) =
    let count : length ys ≡ length xs - m = ap length y ∙ length-drop m xs in
    let skip : length xs - length zs ≡ m + (length ys - length zs) = omega (arith, count, w, l) in
    is_end (z ∙ ap (drop (length ys - length zs)) y ∙ drop_both (length ys - length zs) m xs ∙ sym (ap (λ (u : ℕ). drop u xs) skip)) (omega (arith, count, w, l))

pub left_nameless : (n : ℕ) (xs zs : List ℕ) → IsNameless n xs → IsEnd zs xs → IsNameless (n - (length xs - length zs)) zs
left_nameless n xs zs (is_nameless f) (is_end z l) =
    let skip : ℕ = length xs - length zs in
    is_nameless (λ k h.
    let near : skip + k < n = omega (arith, h) in
    ap (λ (u : List ℕ). to_colon (drop k u)) z ∙ ap to_colon (drop_both k skip xs) ∙ f (skip + k) near)

pub end_within : (zs xs : List ℕ) → IsEnd zs xs → length zs ≤ length xs
end_within zs xs (is_end z l) = l

pub known_nameless : (n : ℕ) (cs : List ℕ) → IsNameless n cs → nat_lt 0 n ≡ true → to_colon cs ≡ None
known_nameless n cs (is_nameless f) h = f 0 (grind (arith, h))

pub ruleset left_names = (left_nameless, end_within)

pub ruleset cut_names = (no_run, end_behind, known_nameless)
