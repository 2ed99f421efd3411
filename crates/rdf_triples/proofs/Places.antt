-- What is taken out of a list whose last item takes its place.
use Rattle.std.proofs.Common.{◌≡◌, ◌⊎◌, Bool, true, false, cond, not, ℕ, ◌+◌, ◌<◌, length, arith, List, [], ◌∷◌, map, get_or, Option, None, Some, position, refl, sym, ap, ap₂, ◌∙◌, inl, inr, subst, nat_lt}
use Rattle.std.specs.List.{list_any, position_or_len, swap_remove, AllByRecursion}
use Rattle.std.specs.Option.{option_map_or}
use Rattle.std.specs.List.Sorted.{IsPermutation}
use Rattle.std.proofs.lemmas.Bool.{cases_Bool, lt-ltb, le-ltb}
use Rattle.std.proofs.lemmas.List.{length-map}
use Rattle.std.proofs.lemmas.List.Sums.{passes_at_first}
use Rattle.std.proofs.lemmas.List.Sorted.{IsPermutation-swap_remove}
use Rattle.indexmap.specs.IndexSet.{swap_remove_by}
use Rattle.indexmap.proofs.MapLemmas.{swap_remove-default}
use Rattle.indexmap.proofs.SetLemmas.{map-swap_remove}

module _ {X : Type 0} (p : X → Bool) where
  found : (xs : List X) → list_any p xs ≡ true → position_or_len p xs < length xs
  found [] e = cc
  found (x ∷ xs) e = go (cases_Bool (p x)) (found xs)
    where
      go : (p x ≡ true) ⊎ (p x ≡ false) → (list_any p xs ≡ true → position_or_len p xs < length xs) → position_or_len p (x ∷ xs) < length (x ∷ xs)
      go (inl h) rest = rw h (omega arith)
      go (inr h) rest = let r : position_or_len p xs < length xs = rest (rw h at e) in rw h (omega arith)

  missing : (xs : List X) → list_any p xs ≡ false → position_or_len p xs ≡ length xs
  missing [] e = refl
  missing (x ∷ xs) e = go (cases_Bool (p x)) (missing xs)
    where
      go : (p x ≡ true) ⊎ (p x ≡ false) → (list_any p xs ≡ false → position_or_len p xs ≡ length xs) → position_or_len p (x ∷ xs) ≡ length (x ∷ xs)
      go (inl h) rest = let bad : true ≡ false = rw h at e in cc
      go (inr h) rest = let r : position_or_len p xs ≡ length xs = rest (rw h at e) in rw h (omega arith)

  -- where no item passes, all stay
  pub none_removed : (xs : List X) → list_any p xs ≡ false → swap_remove_by p xs ≡ xs
  none_removed [] e = refl
  none_removed (x ∷ xs) e =
      let at : position_or_len p (x ∷ xs) ≡ length (x ∷ xs) = missing (x ∷ xs) e in
      let past : nat_lt (position_or_len p (x ∷ xs)) (length (x ∷ xs)) ≡ false = le-ltb (position_or_len p (x ∷ xs)) (length (x ∷ xs)) (omega (arith, at)) in
      ap (λ (b : Bool). option_map_or (λ i. swap_remove (x ∷ xs) i x) (cond b (Some (position_or_len p (x ∷ xs))) None) (x ∷ xs)) past

  -- where y alone passes, it is taken out
  pub one_removed : (xs : List X) (y : X) → ((x : X) → p x ≡ true → y ≡ x) → list_any p xs ≡ true → IsPermutation xs (y ∷ swap_remove_by p xs)
  one_removed [] y same e = cc
  one_removed (x ∷ xs) y same e =
      let i = position_or_len p (x ∷ xs) in
      let below : i < length (x ∷ xs) = found (x ∷ xs) e in
      let is : y ≡ get_or (x ∷ xs) i y = same (get_or (x ∷ xs) i y) (passes_at_first p (x ∷ xs) y below) in
      let there : nat_lt i (length (x ∷ xs)) ≡ true = lt-ltb i (length (x ∷ xs)) below in
      let out : swap_remove_by p (x ∷ xs) ≡ swap_remove (x ∷ xs) i x = ap (λ (b : Bool). option_map_or (λ j. swap_remove (x ∷ xs) j x) (cond b (Some i) None) (x ∷ xs)) there in
      let moved : IsPermutation (x ∷ xs) (y ∷ swap_remove (x ∷ xs) i y) = IsPermutation-swap_remove (x ∷ xs) i y below is in
      subst (λ (zs : List X). IsPermutation (x ∷ xs) (y ∷ zs)) (swap_remove-default (x ∷ xs) i y x (omega arith) ∙ sym out) moved

module _ {X Y : Type 0} (p : X → Bool) (q : Y → Bool) (f : X → Y) (P : X → Type 0) (alike : (x : X) → P x → p x ≡ q (f x)) where
  pub any_alike : (xs : List X) → AllByRecursion P xs → list_any p xs ≡ list_any q (map f xs)
  any_alike [] all = refl
  any_alike (x ∷ xs) all = rw (alike x all.0, any_alike xs all.1) refl

  places_alike : (xs : List X) → AllByRecursion P xs → position_or_len p xs ≡ position_or_len q (map f xs)
  places_alike [] all = refl
  places_alike (x ∷ xs) all = ap₂ (λ (b : Bool) (n : ℕ). cond (not b) (1 + n) 0) (alike x all.0) (places_alike xs all.1)

  position_alike : (xs : List X) → AllByRecursion P xs → position p xs ≡ position q (map f xs)
  position_alike xs all = ap₂ (λ (i n : ℕ). cond (nat_lt i n) (Some i) None) (places_alike xs all) (sym (length-map xs f))

  -- a map that keeps the test
  pub removed_alike : (xs : List X) → AllByRecursion P xs → map f (swap_remove_by p xs) ≡ swap_remove_by q (map f xs)
  removed_alike [] all = refl
  removed_alike (x ∷ xs) all = both (position p (x ∷ xs)) ∙ ap (λ (r : Option ℕ). option_map_or (λ i. swap_remove (f x ∷ map f xs) i (f x)) r (f x ∷ map f xs)) (position_alike (x ∷ xs) all)
    where
      both : (r : Option ℕ) → map f (option_map_or (λ i. swap_remove (x ∷ xs) i x) r (x ∷ xs)) ≡ option_map_or (λ i. swap_remove (f x ∷ map f xs) i (f x)) r (f x ∷ map f xs)
      both None = refl
      both (Some i) = map-swap_remove f (x ∷ xs) i x (omega arith)
