-- The place of an item in a list, where `==` says whether two items are the same.
use Rattle.std.proofs.Common.{◌+◌, ◌-◌, ◌≤◌, arith, ◌≡◌, ℕ, ◌<◌, Bool, true, false, List, Option, None, Some, length, get_or, position, slice_get, Contains, MatchOption, refl, sym, ap, ◌∙◌, true≢false, is_some, if◌then◌else◌, ◌++◌, ◌∷◌, []}
use Rattle.indexmap.specs.IndexSet.{insert_key}
use Rattle.indexmap.proofs.CallerLemmas.{Contains-list_any}
use Rattle.std.proofs.lemmas.List.{length_push, get_or_push}
use Rattle.std.proofs.lemmas.List.Quantifiers.{position-Some}
use Rattle.std.proofs.lemmas.List.Folds.{list_any_at}
use Rattle.std.proofs.lemmas.Option.{slice_get-get_or}
use Rattle.std.specs.List.{list_any}
use Rattle.std.specs.Bool.{Decides}

module _ {X : Type 0} (eq : X → X → Bool) (same : (x y : X) → Decides (eq x y) (x ≡ y)) (xs : List X) (x : X) where
  place-Some : (i : ℕ) → Some i ≡ position (eq x) xs → (i < length xs) × (slice_get xs i ≡ Some x) × Contains xs x
  place-Some i h =
      let p = position-Some (eq x) xs i x (sym h) in
      let e : x ≡ get_or xs i x = (same x (get_or xs i x)).0 p.1 in
      (p.0, slice_get-get_or xs i x p.0 ∙ ap Some (sym e), (i, p.0, sym e))

  absent : list_any (eq x) xs ≡ false → ¬ Contains xs x
  absent h k = true≢false (sym (list_any_at (eq x) xs k.0 x k.1 ((same x (get_or xs k.0 x)).1 (sym k.2))) ∙ h)

  pub place-cases : (r : Option ℕ) → r ≡ position (eq x) xs → is_some r ≡ list_any (eq x) xs
      → MatchOption r (¬ Contains xs x) (λ i. (i < length xs) × (slice_get xs i ≡ Some x) × Contains xs x)
  place-cases None at found = absent (sym found)
  place-cases (Some i) at found = place-Some i at

  -- an item that isn't there goes last
  pub insert_key-absent : ¬ Contains xs x → insert_key eq xs x ≡ xs ++ x ∷ []
  insert_key-absent missing = by (list_any (eq x) xs) refl
    where
      by : (b : Bool) → list_any (eq x) xs ≡ b → insert_key eq xs x ≡ xs ++ x ∷ []
      by true e = absurd (missing (Contains-list_any eq (λ a b. (same a b).0) xs x e))
      by false e = ap (λ (c : Bool). if c then xs else xs ++ x ∷ []) e

pub slice_get-push : {X : Type 0} (xs : List X) (x : X) → slice_get (xs ++ x ∷ []) (length xs) ≡ Some x
slice_get-push xs x =
    let below : length xs < length (xs ++ x ∷ []) = omega (arith, length_push xs x) in
    slice_get-get_or (xs ++ x ∷ []) (length xs) x below ∙ ap Some (get_or_push xs x x (length xs) refl)

add_sub-one : (n : ℕ) → n + 1 - 1 ≡ n
add_sub-one n = omega arith

pub has_id-push : {X : Type 0} (xs : List X) (x : X) (ys : List X) → ys ≡ xs ++ x ∷ [] → (1 ≤ length xs + 1) × (slice_get ys (length xs + 1 - 1) ≡ Some x)
has_id-push xs x ys e = (omega arith, rw (e, add_sub-one) (slice_get-push xs x))
