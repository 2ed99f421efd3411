-- Numbers, each once.
use Rattle.std.proofs.Common.{◌≡◌, ℕ, nat_eq, ◌||◌, Bool, List, [], ◌∷◌, map, refl, ap, ◌∙◌, arith}
use Rattle.std.specs.List.{list_any, flat_map, dedup}
use Rattle.std.specs.Cmp.{IsEquivalence}
use Rattle.std.specs.Ordering.{nat_cmp, eq_by_cmp}
use Rattle.std.proofs.lemmas.List.Folds.{list_any-append}
use Rattle.std.proofs.lemmas.List.Kept.{Contains-dedup_nat, Contains-from_dedup}
use Rattle.std.proofs.lemmas.Map.Views.{Contains-from_any, list_any-from_Contains, exact_unsigned_eq}
use Rattle.pred_colour_meaning.specs.Interference.{has}
use Rattle.pred_colour.proofs.Members.{same_truth}

pub same_ties : (x y : ℕ) → nat_eq x y ≡ eq_by_cmp nat_cmp x y
same_ties x y = grind arith

pub any_of_flat : {X : Type 0} (t : ℕ → Bool) (f : X → List ℕ) (xs : List X) → list_any t (flat_map f xs) ≡ list_any (list_any t) (map f xs)
any_of_flat t f [] = refl
any_of_flat t f (x ∷ xs) = list_any-append t (f x) (flat_map f xs) ∙ ap (λ (b : Bool). list_any t (f x) || b) (any_of_flat t f xs)

pub has_dedup : IsEquivalence nat_eq → (p : ℕ) (xs : List ℕ) → has p (dedup nat_eq xs) ≡ has p xs
has_dedup laws p xs = same_truth _ _
    (λ h. list_any-from_Contains laws p xs (Contains-from_dedup nat_eq xs p (Contains-from_any exact_unsigned_eq p (dedup nat_eq xs) h)))
    (λ h. list_any-from_Contains laws p (dedup nat_eq xs) (Contains-dedup_nat xs p (Contains-from_any exact_unsigned_eq p xs h)))
