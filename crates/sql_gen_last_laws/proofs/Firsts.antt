-- The first of equal items, where the test of equality decides it: of equal bags they are equal bags, and they go through a sort.
use Rattle.std.specs.Prelude.{◌≡◌, ◌⊎◌, ℕ, ◌+◌, Bool, true, false, ◌||◌, List, [], ◌∷◌, map, refl}
use Rattle.std.proofs.Common.{sym, ap, ap₂, ◌∙◌, subst, inl, inr, arith}
use Rattle.std.proofs.lemmas.Bool.{cases_Bool, false_from_ne_true, both_ways}
use Rattle.std.specs.List.{list_any, AllByRecursion}
use Rattle.std.specs.declared.cmp.Ordering.{Ordering}
use Rattle.std.specs.Ordering.{is_le}
use Rattle.std.specs.Cmp.{IsTotalOrder}
use Rattle.std.proofs.lemmas.Map.Lookups.{CmpEqualImpliesEq}
use Rattle.bags.specs.Bag.{total, SameBag}
use Rattle.bags.specs.BagLaws.{same-sym, same-trans}
use Rattle.bags.specs.Sort.{insert_sorted, sort, firsts}
use Rattle.bags.specs.SortLaws.{IsRising, rising-sort, rising-same, sort-same, sort-bag}
use Rattle.sql_rows_laws.specs.SelectLaws.{each-firsts}

any-seen : {X : Type 0} (p q : X → Bool) → ((x : X) → p x ≡ q x) → (xs : List X) → list_any p xs ≡ list_any q xs
any-seen p q e [] = refl
any-seen p q e (x ∷ xs) = ap₂ (λ (a b : Bool). a || b) (e x) (any-seen p q e xs)

-- a map that keeps the test on the items that there are
pub firsts-mapped : {X Y : Type 0} (P : X → Type 0) (same : X → X → Bool) (equal : Y → Y → Bool) (f : X → Y) → ((x y : X) → P x → P y → equal (f x) (f y) ≡ same x y) → (seen xs : List X) → AllByRecursion P seen → AllByRecursion P xs →
    firsts equal (map f seen) (map f xs) ≡ map f (firsts same seen xs)
firsts-mapped P same equal f e seen [] s all = refl
firsts-mapped {X} {Y} P same equal f e seen (x ∷ xs) s all =
    go (cases_Bool (list_any (same x) seen)) (any seen s) (firsts-mapped P same equal f e seen xs s all.1) (firsts-mapped P same equal f e (x ∷ seen) xs (all.0, s) all.1)
  where
    any : (zs : List X) → AllByRecursion P zs → list_any (equal (f x)) (map f zs) ≡ list_any (same x) zs
    any [] h = refl
    any (z ∷ zs) h = ap₂ (λ (a b : Bool). a || b) (e x z all.0 h.0) (any zs h.1)

    go : (list_any (same x) seen ≡ true) ⊎ (list_any (same x) seen ≡ false) → list_any (equal (f x)) (map f seen) ≡ list_any (same x) seen →
        firsts equal (map f seen) (map f xs) ≡ map f (firsts same seen xs) → firsts equal (f x ∷ map f seen) (map f xs) ≡ map f (firsts same (x ∷ seen) xs) → firsts equal (map f seen) (f x ∷ map f xs) ≡ map f (firsts same seen (x ∷ xs))
    go (inl h) k a b = rw (k, h) a
    go (inr h) k a b = rw (k, h) (ap (λ (zs : List Y). f x ∷ zs) b)

-- what was seen tells by its items alone
firsts-seen : {X : Type 0} (same : X → X → Bool) (s r : List X) → ((x : X) → list_any (same x) s ≡ list_any (same x) r) → (xs : List X) → firsts same s xs ≡ firsts same r xs
firsts-seen same s r e [] = refl
firsts-seen {X} same s r e (x ∷ xs) = go (cases_Bool (list_any (same x) r)) (firsts-seen same s r e xs) (firsts-seen same (x ∷ s) (x ∷ r) (λ y. ap (λ b. same y x || b) (e y)) xs)
  where
    go : (list_any (same x) r ≡ true) ⊎ (list_any (same x) r ≡ false) → firsts same s xs ≡ firsts same r xs → firsts same (x ∷ s) xs ≡ firsts same (x ∷ r) xs → firsts same s (x ∷ xs) ≡ firsts same r (x ∷ xs)
    go (inl h) a b = rw (e x, h) a
    go (inr h) a b = rw (e x, h) (ap (λ (zs : List X). x ∷ zs) b)

module _ {X : Type 0} (same : X → X → Bool) (is : (x y : X) → same x y ≡ true → x ≡ y) where
  turned : (x y : X) → same x y ≡ false → same y x ≡ false
  turned x y e = false_from_ne_true _ (λ t. let z : y ≡ x = is y x t in both_ways (same x y) e (subst (λ u. same u y ≡ true) z (subst (λ u. same y u ≡ true) (sym z) t)))

  either-order : (a b c : Bool) → (a || (b || c)) ≡ (b || (a || c))
  either-order true true c = refl
  either-order true false c = refl
  either-order false true c = refl
  either-order false false c = refl

  left-out : (x : X) (seen xs : List X) → list_any (same x) seen ≡ true → firsts same seen (x ∷ xs) ≡ firsts same seen xs
  left-out x seen xs e = rw e refl

  taken-in : (x : X) (seen xs : List X) → list_any (same x) seen ≡ false → firsts same seen (x ∷ xs) ≡ x ∷ firsts same (x ∷ seen) xs
  taken-in x seen xs e = rw e refl

  -- two neighbours change places
  total-swapped : (g : X → ℕ) (x y : X) (seen ys : List X) → total g (firsts same seen (y ∷ x ∷ ys)) ≡ total g (firsts same seen (x ∷ y ∷ ys))
  total-swapped g x y seen ys = go (cases_Bool (list_any (same x) seen)) (cases_Bool (list_any (same y) seen)) (cases_Bool (same x y))
    where
      right : (b c : Bool) → c ≡ true → (b || c) ≡ true
      right true c e = refl
      right false c e = e

      neither : (b c : Bool) → b ≡ false → c ≡ false → (b || c) ≡ false
      neither b c e f = rw e f

      both : list_any (same x) seen ≡ false → list_any (same y) seen ≡ false → same x y ≡ false → total g (firsts same seen (y ∷ x ∷ ys)) ≡ total g (firsts same seen (x ∷ y ∷ ys))
      both h k s =
          let one : firsts same seen (y ∷ x ∷ ys) ≡ y ∷ x ∷ firsts same (x ∷ y ∷ seen) ys =
          taken-in y seen (x ∷ ys) k ∙ ap (λ (zs : List X). y ∷ zs) (taken-in x (y ∷ seen) ys (neither (same x y) (list_any (same x) seen) s h)) in
          let other : firsts same seen (x ∷ y ∷ ys) ≡ x ∷ y ∷ firsts same (y ∷ x ∷ seen) ys =
          taken-in x seen (y ∷ ys) h ∙ ap (λ (zs : List X). x ∷ zs) (taken-in y (x ∷ seen) ys (neither (same y x) (list_any (same y) seen) (turned x y s) k)) in
          let after : firsts same (x ∷ y ∷ seen) ys ≡ firsts same (y ∷ x ∷ seen) ys =
          firsts-seen same (x ∷ y ∷ seen) (y ∷ x ∷ seen) (λ z. either-order (same z x) (same z y) (list_any (same z) seen)) ys in
          let counted : total g (firsts same (x ∷ y ∷ seen) ys) ≡ total g (firsts same (y ∷ x ∷ seen) ys) = ap (total g) after in
          let sums : g y + (g x + total g (firsts same (x ∷ y ∷ seen) ys)) ≡ g x + (g y + total g (firsts same (y ∷ x ∷ seen) ys)) = omega arith in
          ap (total g) one ∙ sums ∙ sym (ap (total g) other)

      go : (list_any (same x) seen ≡ true) ⊎ (list_any (same x) seen ≡ false) → (list_any (same y) seen ≡ true) ⊎ (list_any (same y) seen ≡ false) → (same x y ≡ true) ⊎ (same x y ≡ false) →
          total g (firsts same seen (y ∷ x ∷ ys)) ≡ total g (firsts same seen (x ∷ y ∷ ys))
      go (inl h) (inl k) s = ap (total g) (left-out y seen (x ∷ ys) k ∙ left-out x seen ys h ∙ sym (left-out x seen (y ∷ ys) h ∙ left-out y seen ys k))
      go (inl h) (inr k) s =
          ap (total g) (taken-in y seen (x ∷ ys) k ∙ ap (λ (zs : List X). y ∷ zs) (left-out x (y ∷ seen) ys (right (same x y) (list_any (same x) seen) h)) ∙ sym (left-out x seen (y ∷ ys) h ∙ taken-in y seen ys k))
      go (inr h) (inl k) s =
          ap (total g) (left-out y seen (x ∷ ys) k ∙ taken-in x seen ys h ∙ sym (taken-in x seen (y ∷ ys) h ∙ ap (λ (zs : List X). x ∷ zs) (left-out y (x ∷ seen) ys (right (same y x) (list_any (same y) seen) k))))
      go (inr h) (inr k) (inl s) = ap₂ (λ (u v : X). total g (firsts same seen (u ∷ v ∷ ys))) (sym (is x y s)) (is x y s)
      go (inr h) (inr k) (inr s) = both h k s

  total-inserted : (cmp : X → X → Ordering) (g : X → ℕ) (x : X) (seen ys : List X) → total g (firsts same seen (insert_sorted cmp x ys)) ≡ total g (firsts same seen (x ∷ ys))
  total-inserted cmp g x seen [] = refl
  total-inserted cmp g x seen (y ∷ ys) = go (cases_Bool (is_le (cmp x y))) (cases_Bool (list_any (same y) seen)) (total-inserted cmp g x seen ys) (total-inserted cmp g x (y ∷ seen) ys)
    where
      behind : (list_any (same y) seen ≡ true) ⊎ (list_any (same y) seen ≡ false) → total g (firsts same seen (insert_sorted cmp x ys)) ≡ total g (firsts same seen (x ∷ ys)) →
          total g (firsts same (y ∷ seen) (insert_sorted cmp x ys)) ≡ total g (firsts same (y ∷ seen) (x ∷ ys)) → total g (firsts same seen (y ∷ insert_sorted cmp x ys)) ≡ total g (firsts same seen (y ∷ x ∷ ys))
      behind (inl h) a b = ap (total g) (left-out y seen (insert_sorted cmp x ys) h) ∙ a ∙ sym (ap (total g) (left-out y seen (x ∷ ys) h))
      behind (inr h) a b = ap (total g) (taken-in y seen (insert_sorted cmp x ys) h) ∙ ap (λ n. g y + n) b ∙ sym (ap (total g) (taken-in y seen (x ∷ ys) h))

      go : (is_le (cmp x y) ≡ true) ⊎ (is_le (cmp x y) ≡ false) → (list_any (same y) seen ≡ true) ⊎ (list_any (same y) seen ≡ false) → total g (firsts same seen (insert_sorted cmp x ys)) ≡ total g (firsts same seen (x ∷ ys)) →
          total g (firsts same (y ∷ seen) (insert_sorted cmp x ys)) ≡ total g (firsts same (y ∷ seen) (x ∷ ys)) → total g (firsts same seen (insert_sorted cmp x (y ∷ ys))) ≡ total g (firsts same seen (x ∷ y ∷ ys))
      go (inl e) d a b = rw e refl
      go (inr e) d a b = rw e (behind d a b ∙ total-swapped g x y seen ys)

  total-sorted : (cmp : X → X → Ordering) (g : X → ℕ) (seen xs : List X) → total g (firsts same seen (sort cmp xs)) ≡ total g (firsts same seen xs)
  total-sorted cmp g seen [] = refl
  total-sorted cmp g seen (x ∷ xs) = total-inserted cmp g x seen (sort cmp xs) ∙ at (cases_Bool (list_any (same x) seen)) (total-sorted cmp g seen xs) (total-sorted cmp g (x ∷ seen) xs)
    where
      at : (list_any (same x) seen ≡ true) ⊎ (list_any (same x) seen ≡ false) → total g (firsts same seen (sort cmp xs)) ≡ total g (firsts same seen xs) → total g (firsts same (x ∷ seen) (sort cmp xs)) ≡ total g (firsts same (x ∷ seen) xs) →
          total g (firsts same seen (x ∷ sort cmp xs)) ≡ total g (firsts same seen (x ∷ xs))
      at (inl h) a b = rw h a
      at (inr h) a b = rw h (ap (λ n. g x + n) b)

  -- a sort before changes their order alone
  pub firsts-bag : (cmp : X → X → Ordering) (xs : List X) → SameBag (firsts same [] (sort cmp xs)) (firsts same [] xs)
  firsts-bag cmp xs = record { totals = λ g. total-sorted cmp g [] xs }

  -- equal bags have equal bags of firsts
  pub firsts-same : (cmp : X → X → Ordering) → IsTotalOrder cmp → CmpEqualImpliesEq cmp → (xs ys : List X) → SameBag xs ys → SameBag (firsts same [] xs) (firsts same [] ys)
  firsts-same cmp o t xs ys s =
      same-trans (same-sym (firsts-bag cmp xs)) (subst (λ (zs : List X). SameBag (firsts same [] zs) (firsts same [] ys)) (sym (sort-same cmp o t xs ys s)) (firsts-bag cmp ys))

  rising-firsts : (cmp : X → X → Ordering) (seen xs : List X) → IsRising cmp xs → IsRising cmp (firsts same seen xs)
  rising-firsts cmp seen [] r = tt
  rising-firsts cmp seen (x ∷ xs) r = go (cases_Bool (list_any (same x) seen)) (rising-firsts cmp seen xs r.1) (rising-firsts cmp (x ∷ seen) xs r.1)
    where
      go : (list_any (same x) seen ≡ true) ⊎ (list_any (same x) seen ≡ false) → IsRising cmp (firsts same seen xs) → IsRising cmp (firsts same (x ∷ seen) xs) → IsRising cmp (firsts same seen (x ∷ xs))
      go (inl h) a b = rw h a
      go (inr h) a b = rw h (each-firsts (λ y. is_le (cmp x y) ≡ true) same (x ∷ seen) xs r.0, b)

  -- the firsts of a sorted list are the sorted firsts
  pub firsts-sorted : (cmp : X → X → Ordering) → IsTotalOrder cmp → CmpEqualImpliesEq cmp → (xs : List X) → firsts same [] (sort cmp xs) ≡ sort cmp (firsts same [] xs)
  firsts-sorted cmp o t xs =
      rising-same o t (firsts same [] (sort cmp xs)) (sort cmp (firsts same [] xs)) (rising-firsts cmp [] (sort cmp xs) (rising-sort o xs)) (rising-sort o (firsts same [] xs))
      (same-trans (firsts-bag cmp xs) (same-sym (sort-bag cmp (firsts same [] xs))))
