-- Lists of items that differ: the same members make the same bag.
use Rattle.std.proofs.Common.{◌≡◌, Bool, true, false, ◌||◌, List, [], ◌∷◌, refl, sym, ap, ◌∙◌, subst}
use Rattle.std.specs.List.{list_any, IsDistinct, AllByRecursion}
use Rattle.std.specs.Cmp.{IsEquivalence}
use Rattle.std.specs.List.Sorted.{IsPermutation}
use Rattle.std.proofs.lemmas.Bool.{true≢false}
use Rattle.std.proofs.lemmas.Map.Keys.{IsDistinct-head, IsDistinct-tail, IsDistinct-IsPermutation}
use Rattle.bags.specs.Bag.{SameBag}
use Rattle.bags.specs.BagLaws.{same-refl, same-trans, same-any, same-sym, same-append}
use Rattle.bags.specs.PermutationLaws.{same-permutation}
use Rattle.indexmap.specs.IndexSet.{swap_remove_by}
use Rattle.rdf_triples.proofs.Places.{one_removed}

-- none of these is x
pub none_among : {X : Type 0} (p : X → Bool) (xs : List X) → AllByRecursion (λ x. p x ≡ false) xs → list_any p xs ≡ false
none_among p [] all = refl
none_among p (x ∷ xs) all = rw (all.0, none_among p xs all.1) refl

module _ {X : Type 0} (same : X → X → Bool) (is : (x y : X) → same x y ≡ true → x ≡ y) (equiv : IsEquivalence same) where
  -- the first item isn't among the others
  pub first_apart : (x : X) (xs : List X) → IsDistinct same (x ∷ xs) → list_any (same x) xs ≡ false
  first_apart x xs d = none_among (same x) xs (IsDistinct-head same x xs d)

  -- an item that is among items that differ is taken out
  pub taken_out : (xs : List X) (x : X) → list_any (same x) xs ≡ true → IsPermutation xs (x ∷ swap_remove_by (same x) xs)
  taken_out xs x e = one_removed (same x) xs x (is x) e

  pub rest_differs : (xs : List X) (x : X) → IsDistinct same xs → list_any (same x) xs ≡ true → IsDistinct same (x ∷ swap_remove_by (same x) xs)
  rest_differs xs x d e = IsDistinct-IsPermutation same equiv.symm xs (x ∷ swap_remove_by (same x) xs) (taken_out xs x e) d

  parts_agree : (a b c : Bool) → (a ≡ true → b ≡ false) → (a ≡ true → c ≡ false) → (a || b) ≡ (a || c) → b ≡ c
  parts_agree true b c h k e = h refl ∙ sym (k refl)
  parts_agree false b c h k e = e

  no_member : (x : X) (xs ys : List X) → list_any (same x) ys ≡ false → same x x ≡ true → ((z : X) → list_any (same z) (x ∷ xs) ≡ list_any (same z) ys) → true ≡ false
  no_member x xs ys n s e = ap (λ (b : Bool). b || list_any (same x) xs) (sym s) ∙ e x ∙ n

  -- items that differ, and the same members
  pub same-members : (xs ys : List X) → IsDistinct same xs → IsDistinct same ys → ((z : X) → list_any (same z) xs ≡ list_any (same z) ys) → SameBag xs ys
  same-members [] [] d f e = same-refl []
  same-members [] (y ∷ ys) d f e = absurd (true≢false (sym (ap (λ (b : Bool). b || list_any (same y) ys) (equiv.refl y)) ∙ sym (e y)))
  same-members (x ∷ xs) ys d f e = go (same-members xs (swap_remove_by (same x) ys))
    where
      there : list_any (same x) ys ≡ true
      there = sym (e x) ∙ ap (λ (b : Bool). b || list_any (same x) xs) (equiv.refl x)

      out : SameBag ys (x ∷ swap_remove_by (same x) ys)
      out = same-permutation ys (x ∷ swap_remove_by (same x) ys) (taken_out ys x there)

      differs : IsDistinct same (x ∷ swap_remove_by (same x) ys)
      differs = rest_differs ys x f there

      -- what is x is among neither rest
      not_among : (z : X) (zs : List X) → IsDistinct same (x ∷ zs) → same z x ≡ true → list_any (same z) zs ≡ false
      not_among z zs g h = subst (λ (w : X). list_any (same w) zs ≡ false) (sym (is z x h)) (first_apart x zs g)

      members : (z : X) → list_any (same z) xs ≡ list_any (same z) (swap_remove_by (same x) ys)
      members z = parts_agree (same z x) (list_any (same z) xs) (list_any (same z) (swap_remove_by (same x) ys)) (not_among z xs d) (not_among z (swap_remove_by (same x) ys) differs)
          (e z ∙ same-any (same z) ys (x ∷ swap_remove_by (same x) ys) out)

      go : (IsDistinct same xs → IsDistinct same (swap_remove_by (same x) ys) → ((z : X) → list_any (same z) xs ≡ list_any (same z) (swap_remove_by (same x) ys)) → SameBag xs (swap_remove_by (same x) ys)) → SameBag (x ∷ xs) ys
      go rest = same-trans (same-append (x ∷ []) (x ∷ []) xs (swap_remove_by (same x) ys) (same-refl (x ∷ [])) (rest (IsDistinct-tail same x xs d) (IsDistinct-tail same x (swap_remove_by (same x) ys) differs) members)) (same-sym out)
