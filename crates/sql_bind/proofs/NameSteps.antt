-- Names that have come, the last one first.
use Rattle.std.proofs.Common.{◌≡◌, ℕ, Bool, true, false, List, [], ◌∷◌, ◌++◌, refl, ap, ◌∙◌}
use Rattle.std.specs.Prelude.{reverse, ◌||◌}
use Rattle.std.proofs.lemmas.List.{reverse-append}
use Rattle.std.proofs.lemmas.List.Folds.{list_any-append}
use Rattle.std.specs.List.{list_any}

turned : (a b : Bool) → (a || (b || false)) ≡ (b || a)
turned true true = refl
turned true false = refl
turned false true = refl
turned false false = refl

pub told_of_reversed : (test : List ℕ → Bool) (names : List (List ℕ)) → list_any test (reverse names) ≡ list_any test names
told_of_reversed test [] = refl
told_of_reversed test (n ∷ names) =
    ap (list_any test) (reverse-append (n ∷ []) names) ∙ list_any-append test (reverse names) (n ∷ []) ∙ turned (list_any test (reverse names)) (test n) ∙ ap (λ (b : Bool). test n || b) (told_of_reversed test names)

pub noted : (names : List (List ℕ)) (n : List ℕ) → reverse (names ++ n ∷ []) ≡ n ∷ reverse names
noted names n = reverse-append names (n ∷ [])
