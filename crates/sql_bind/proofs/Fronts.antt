-- What is left of a list, and what stands behind one more.
use Rattle.std.proofs.Common.{◌≡◌, ℕ, suc, ◌+◌, ◌<◌, List, [], ◌∷◌, ◌++◌, length, drop, get_or, refl, sym, ap, ◌∙◌, arith}
use Rattle.std.proofs.Math.Seq.{drop-cons}

pub at-front : {X : Type 0} (all : List X) (i : ℕ) (x : X) → i < length all → x ≡ get_or all i x → drop i all ≡ x ∷ drop (i + 1) all
at-front {X} all i x within is =
    let next : suc i ≡ i + 1 = omega arith in
    drop-cons all i x within ∙ ap (λ (y : X). y ∷ drop (suc i) all) (sym is) ∙ ap (λ (n : ℕ). x ∷ drop n all) next

pub append-one : {X : Type 0} (xs : List X) (y : X) (ys : List X) → xs ++ y ∷ ys ≡ (xs ++ y ∷ []) ++ ys
append-one [] y ys = refl
append-one {X} (x ∷ xs) y ys = ap (λ (l : List X). x ∷ l) (append-one xs y ys)

pub nothing-behind : {X : Type 0} (xs : List X) → xs ++ [] ≡ xs
nothing-behind [] = refl
nothing-behind {X} (x ∷ xs) = ap (λ (l : List X). x ∷ l) (nothing-behind xs)
