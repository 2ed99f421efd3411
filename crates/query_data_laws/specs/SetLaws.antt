-- Lists with the same members pass the same tests.
use Rattle.std.specs.Prelude.{◌≡◌, ◌⊎◌, Bool, true, false, List, [], ◌∷◌, refl}
use Rattle.std.proofs.Common.{sym, ◌∙◌, subst, inl, inr}
use Rattle.std.proofs.lemmas.Bool.{or_cases, or_left, or_right}
use Rattle.std.specs.List.{list_any}

-- each follows from the other
pub one_truth : (a b : Bool) → (a ≡ true → b ≡ true) → (b ≡ true → a ≡ true) → a ≡ b
one_truth true b f g = sym (f refl)
one_truth false true f g = g refl
one_truth false false f g = refl

module _ {X : Type 0} (same : X → X → Bool) (is : (x y : X) → same x y ≡ true → x ≡ y) (self : (x : X) → same x x ≡ true) (p : X → Bool) where
  -- an item that passes stands there
  pub any-member : (x : X) (xs : List X) → p x ≡ true → list_any (same x) xs ≡ true → list_any p xs ≡ true
  any-member x [] h m = cc
  any-member x (y ∷ ys) h m = at (or_cases (same x y) (list_any (same x) ys) m) (any-member x ys h)
    where
      at : (same x y ≡ true) ⊎ (list_any (same x) ys ≡ true) → (list_any (same x) ys ≡ true → list_any p ys ≡ true) → list_any p (y ∷ ys) ≡ true
      at (inl e) rest = or_left (p y) (list_any p ys) (subst (λ (z : X). p z ≡ true) (is x y e) h)
      at (inr e) rest = or_right (p y) (list_any p ys) (rest e)

  any-moves : (xs ys : List X) → ((x : X) → list_any (same x) xs ≡ true → list_any (same x) ys ≡ true) → list_any p xs ≡ true → list_any p ys ≡ true
  any-moves [] ys m h = cc
  any-moves (x ∷ xs) ys m h = at (or_cases (p x) (list_any p xs) h) (any-moves xs ys (λ z k. m z (or_right (same z x) (list_any (same z) xs) k)))
    where
      at : (p x ≡ true) ⊎ (list_any p xs ≡ true) → (list_any p xs ≡ true → list_any p ys ≡ true) → list_any p ys ≡ true
      at (inl e) rest = any-member x ys e (m x (or_left (same x x) (list_any (same x) xs) (self x)))
      at (inr e) rest = rest e

  -- a test that some item passes
  pub any-same_members : (xs ys : List X) → ((x : X) → list_any (same x) xs ≡ list_any (same x) ys) → list_any p xs ≡ list_any p ys
  any-same_members xs ys m =
      one_truth (list_any p xs) (list_any p ys) (any-moves xs ys (λ x e. sym (m x) ∙ e)) (any-moves ys xs (λ x e. m x ∙ e))
