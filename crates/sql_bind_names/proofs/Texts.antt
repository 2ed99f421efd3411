-- Names compared and counted.
use Rattle.std.proofs.Common.{◌≡◌, ◌⊎◌, ℕ, zero, suc, ◌<◌, Bool, true, false, List, [], ◌∷◌, map, length, get_or, Some, None, nat_lt, refl, sym, ap, ◌∙◌, arith, inl, inr}
use Rattle.std.specs.Prelude.{not, ◌&&◌, ◌||◌, cond}
use Rattle.std.proofs.lemmas.Bool.{cases_Bool, false_from_ne_true, both_ways}
use Rattle.std.proofs.lemmas.Slice.Eq.{bytes_eq-Decides}
use Rattle.std.specs.List.{list_any, position, position_or_len}
use Rattle.std.specs.Str.{bytes_eq}

pub turned : (x y : List ℕ) → bytes_eq x y ≡ false → bytes_eq y x ≡ false
turned x y h = false_from_ne_true (bytes_eq y x) (λ e. both_ways (bytes_eq x y) h ((bytes_eq-Decides x y).1 (sym ((bytes_eq-Decides y x).0 e))))

-- two names are equal either way round
pub flipped : (x y : List ℕ) → bytes_eq x y ≡ bytes_eq y x
flipped x y = at (cases_Bool (bytes_eq x y))
  where
    at : (bytes_eq x y ≡ true) ⊎ (bytes_eq x y ≡ false) → bytes_eq x y ≡ bytes_eq y x
    at (inl e) = e ∙ sym ((bytes_eq-Decides y x).1 (sym ((bytes_eq-Decides x y).0 e)))
    at (inr e) = e ∙ sym (turned x y e)

pub not_left : (a b : Bool) → not a && b ≡ true → (a ≡ false) × (b ≡ true)
not_left true b h = cc
not_left false b h = (refl, h)

left : (a b : Bool) → (a || b) ≡ false → a ≡ false
left true b h = h
left false b h = refl

right : (a b : Bool) → (a || b) ≡ false → b ≡ false
right true b h = cc
right false b h = h

-- none of the rest has this name
pub other : {X : Type 0} (name_of : X → List ℕ) (name : List ℕ) (rest : List X) (j : ℕ) (x : X) → list_any (bytes_eq name) (map name_of rest) ≡ false → j < length rest → x ≡ get_or rest j x → bytes_eq name (name_of x) ≡ false
other name_of name [] j x h within is = absurd (omega arith)
other {X} name_of name (y ∷ rest) zero x h within is = ap (λ (z : X). bytes_eq name (name_of z)) is ∙ left (bytes_eq name (name_of y)) (list_any (bytes_eq name) (map name_of rest)) h
other name_of name (y ∷ rest) (suc j) x h within is = other name_of name rest j x (right (bytes_eq name (name_of y)) (list_any (bytes_eq name) (map name_of rest)) h) (omega arith) is

-- the place of the first that passes
pub place-is : (test : List ℕ → Bool) (names : List (List ℕ)) (n : ℕ) → Some n ≡ position test names → n ≡ position_or_len test names
place-is test names n h = at (nat_lt (position_or_len test names) (length names)) h
  where
    at : (b : Bool) → Some n ≡ cond b (Some (position_or_len test names)) None → n ≡ position_or_len test names
    at true h = cc
    at false h = cc
