-- Bags and permutations of the standard library.
use Rattle.std.specs.Prelude.{◌≡◌, ℕ, ◌⊎◌, Bool, true, false, List, [], ◌∷◌, ◌++◌, refl}
use Rattle.std.proofs.Common.{sym, ap, ◌∙◌, subst, inl, inr}
use Rattle.std.proofs.lemmas.Bool.{cases_Bool}
use Rattle.std.specs.List.{sum_by, list_any}
use Rattle.std.specs.List.Sorted.{IsPermutation}
use Rattle.std.proofs.lemmas.List.Sorted.{sum_by-IsPermutation, IsPermutation-refl, IsPermutation-cons, IsPermutation-middle, IsPermutation-sym, IsPermutation-trans}
use Rattle.std.proofs.lemmas.List.Recursion.{is_sum_by}
use Rattle.bags.specs.Bag.{total, SameBag}
use Rattle.bags.specs.BagLaws.{same-empty, same-sym, same-trans, same-rest, same-any}

pub total-is_sum : {X : Type 0} (g : X → ℕ) (xs : List X) → total g xs ≡ sum_by g xs
total-is_sum g xs = is_sum_by (total g) g refl (λ x xs. refl) xs

-- lists in another order are the same bag
pub same-permutation : {X : Type 0} (xs ys : List X) → IsPermutation xs ys → SameBag xs ys
same-permutation xs ys p = record { totals = λ g. total-is_sum g xs ∙ sym (sum_by-IsPermutation g xs ys p) ∙ sym (total-is_sum g ys) }

record Cut {X : Type 0} (x : X) (ys : List X) : Type 0 where
  front : List X
  back : List X
  is : ys ≡ front ++ x ∷ back

cut_at : {X : Type 0} (same : X → X → Bool) → ((x y : X) → same x y ≡ true → x ≡ y) → (x : X) (ys : List X) → list_any (same x) ys ≡ true → Cut x ys
cut_at same tells x [] e = cc
cut_at {X} same tells x (y ∷ ys) e = go (cases_Bool (same x y)) (cut_at same tells x ys)
  where
    later : Cut x ys → Cut x (y ∷ ys)
    later c = record { front = y ∷ c.front; back = c.back; is = ap (λ (zs : List X). y ∷ zs) c.is }

    go : (same x y ≡ true) ⊎ (same x y ≡ false) → (list_any (same x) ys ≡ true → Cut x ys) → Cut x (y ∷ ys)
    go (inl h) rest = record { front = []; back = ys; is = ap (λ (z : X). z ∷ ys) (sym (tells x y h)) }
    go (inr h) rest = later (rest (rw h at e))

middle : {X : Type 0} (front : List X) (x : X) (back : List X) → SameBag (front ++ x ∷ back) (x ∷ (front ++ back))
middle front x back = same-permutation _ _ (IsPermutation-middle front x back)

-- items with a test of equality: equal bags are lists in another order
pub permutation-from_same : {X : Type 0} (same : X → X → Bool) → ((x y : X) → same x y ≡ true → x ≡ y) → ((x : X) → same x x ≡ true) → (xs ys : List X) → SameBag xs ys → IsPermutation xs ys
permutation-from_same {X} same tells self [] ys s = subst (λ (zs : List X). IsPermutation [] zs) (sym (same-empty ys (same-sym s))) (IsPermutation-refl [])
permutation-from_same {X} same tells self (x ∷ xs) ys s = go (cut_at same tells x ys there) (permutation-from_same same tells self xs)
  where
    first : list_any (same x) (x ∷ xs) ≡ true
    first = rw (self x) refl

    there : list_any (same x) ys ≡ true
    there = sym (same-any (same x) (x ∷ xs) ys s) ∙ first

    go : Cut x ys → ((zs : List X) → SameBag xs zs → IsPermutation xs zs) → IsPermutation (x ∷ xs) ys
    go c rest =
        let left : SameBag (x ∷ xs) (c.front ++ x ∷ c.back) = subst (λ (zs : List X). SameBag (x ∷ xs) zs) c.is s in
        let less : SameBag xs (c.front ++ c.back) = same-rest x xs (c.front ++ c.back) (same-trans left (middle c.front x c.back)) in
        let moved : IsPermutation (x ∷ xs) (c.front ++ x ∷ c.back) =
        IsPermutation-trans (x ∷ xs) (x ∷ (c.front ++ c.back)) (c.front ++ x ∷ c.back) (IsPermutation-cons x xs (c.front ++ c.back) (rest (c.front ++ c.back) less))
        (IsPermutation-sym (c.front ++ x ∷ c.back) (x ∷ (c.front ++ c.back)) (IsPermutation-middle c.front x c.back)) in
        subst (λ (zs : List X). IsPermutation (x ∷ xs) zs) (sym c.is) moved
