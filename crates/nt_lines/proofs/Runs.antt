use Rattle.std.proofs.Common.{◌≡◌, ℕ, suc, ◌+◌, false, List, [], ◌∷◌, ◌++◌, drop, reverse, refl, sym, ap, ◌∙◌, arith}
use Rattle.std.proofs.lemmas.List.{reverse-append, reverse-reverse}
use Rattle.std.specs.List.{prefix_len}
use Rattle.line_meaning.specs.Reader.{is_dot, without_last_dots}

drop_one_more : (n x : ℕ) (xs : List ℕ) → drop (1 + n) (x ∷ xs) ≡ drop n xs
drop_one_more n x xs = let e : 1 + n ≡ suc n = omega arith in ap (λ k. drop k (x ∷ xs)) e

-- a full stop that stands last is cut
pub last_dot : (xs : List ℕ) → without_last_dots (xs ++ 46 ∷ []) ≡ without_last_dots xs
last_dot xs = rw (reverse-append xs (46 ∷ [])) (ap (λ (t : List ℕ). reverse t) (drop_one_more (prefix_len is_dot (reverse xs)) 46 (reverse xs)))

pub last_other : (xs : List ℕ) (c : ℕ) → is_dot c ≡ false → without_last_dots (xs ++ c ∷ []) ≡ xs ++ c ∷ []
last_other xs c e =
    let r : reverse (xs ++ c ∷ []) ≡ c ∷ reverse xs = reverse-append xs (c ∷ []) in
    let kept : drop (prefix_len is_dot (c ∷ reverse xs)) (c ∷ reverse xs) ≡ c ∷ reverse xs = rw e refl in
    ap (λ (t : List ℕ). reverse (drop (prefix_len is_dot t) t)) r ∙ ap (λ (t : List ℕ). reverse t) (kept ∙ sym r) ∙ reverse-reverse (xs ++ c ∷ [])
