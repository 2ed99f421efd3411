-- The laws of sorting: what a sort keeps, that equal bags sort alike, and that a list that is in order is the sort.
use Rattle.std.specs.Prelude.{◌≡◌, ℕ, ◌+◌, ◌⊎◌, Bool, true, false, cond, if◌then◌else◌, ◌||◌, List, [], ◌∷◌, map, slice_index_or, refl}
use Rattle.std.proofs.Common.{sym, ap, ap₂, ◌∙◌, subst, arith, inl, inr, add-one}
use Rattle.std.proofs.lemmas.Bool.{cases_Bool}
use Rattle.std.specs.List.{list_any, AllByRecursion}
use Rattle.std.specs.List.Sorted.{IsPermutation, IsSorted}
use Rattle.std.specs.Cmp.{IsTotalOrder}
use Rattle.std.proofs.lemmas.Map.Lookups.{CmpEqualImpliesEq}
use Rattle.std.proofs.lemmas.Cmp.{upto, tied_itself}
use Rattle.std.specs.declared.cmp.Ordering.{Ordering}
use Rattle.std.specs.declared.cmp.Ordering.TheVariants.{Less, Equal, Greater}
use Rattle.std.specs.Ordering.{is_le, is_lt, is_gt, ordering_reverse}
use Rattle.bags.specs.Bag.{total, SameBag}
use Rattle.bags.specs.BagLaws.{same-sym, same-trans, each-weaker}
use Rattle.bags.specs.PermutationLaws.{same-permutation}
use Rattle.bags.specs.Sort.{insert_sorted, sort, firsts}

-- each item is at most those after it
abbrev pub IsRising : {X : Type 0} → (X → X → Ordering) → List X → Type 0
IsRising cmp [] = Unit {0}
IsRising cmp (x ∷ xs) = AllByRecursion (λ y. is_le (cmp x y) ≡ true) xs × IsRising cmp xs

-- ---- the three answers of a comparison

le_from_gt : (r : Ordering) → is_gt r ≡ false → is_le r ≡ true
le_from_gt Less e = refl
le_from_gt Equal e = refl
le_from_gt Greater e = cc

gt_from_le : (r : Ordering) → is_le r ≡ true → is_gt r ≡ false
gt_from_le Less e = refl
gt_from_le Equal e = refl
gt_from_le Greater e = cc

turn_le : (r : Ordering) → is_le r ≡ false → is_lt (ordering_reverse r) ≡ true
turn_le Less e = cc
turn_le Equal e = cc
turn_le Greater e = refl

le_from_lt : (r : Ordering) → is_lt r ≡ true → is_le r ≡ true
le_from_lt Less e = refl
le_from_lt Equal e = refl
le_from_lt Greater e = cc

le_from_not_lt : (r : Ordering) → is_lt r ≡ false → is_le (ordering_reverse r) ≡ true
le_from_not_lt Less e = cc
le_from_not_lt Equal e = refl
le_from_not_lt Greater e = refl

eq_from_le : (r : Ordering) → is_le r ≡ true → is_le (ordering_reverse r) ≡ true → r ≡ Equal
eq_from_le Less e f = cc
eq_from_le Equal e f = refl
eq_from_le Greater e f = cc

module _ {X : Type 0} {cmp : X → X → Ordering} (o : IsTotalOrder cmp) where
  pub le-trans : (x y z : X) → is_le (cmp x y) ≡ true → is_le (cmp y z) ≡ true → is_le (cmp x z) ≡ true
  le-trans x y z a b = le_from_gt (cmp x z) (upto o x y z (gt_from_le (cmp x y) a) (gt_from_le (cmp y z) b))

  pub le-self : (x : X) → is_le (cmp x x) ≡ true
  le-self x = ap is_le (tied_itself o x)

  -- what isn't at most the other is above it
  pub above-from : (x y : X) → is_le (cmp x y) ≡ false → is_lt (cmp y x) ≡ true
  above-from x y e = subst (λ r. is_lt r ≡ true) (sym (o.antisymm y x)) (turn_le (cmp x y) e)

  pub le-from : (x y : X) → is_le (cmp x y) ≡ false → is_le (cmp y x) ≡ true
  le-from x y e = le_from_lt (cmp y x) (above-from x y e)

  pub le-from_not_lt : (x y : X) → is_lt (cmp x y) ≡ false → is_le (cmp y x) ≡ true
  le-from_not_lt x y e = subst (λ r. is_le r ≡ true) (sym (o.antisymm y x)) (le_from_not_lt (cmp x y) e)

  pub tied-from : (x y : X) → is_le (cmp x y) ≡ true → is_le (cmp y x) ≡ true → cmp x y ≡ Equal
  tied-from x y a b = eq_from_le (cmp x y) a (subst (λ r. is_le r ≡ true) (o.antisymm y x) b)

-- ---- what a sort keeps

total-insert : {X : Type 0} (cmp : X → X → Ordering) (g : X → ℕ) (x : X) (ys : List X) → total g (insert_sorted cmp x ys) ≡ g x + total g ys
total-insert cmp g x [] = refl
total-insert cmp g x (y ∷ ys) = go (cases_Bool (is_le (cmp x y))) (total-insert cmp g x ys)
  where
    go : (is_le (cmp x y) ≡ true) ⊎ (is_le (cmp x y) ≡ false) → total g (insert_sorted cmp x ys) ≡ g x + total g ys → total g (insert_sorted cmp x (y ∷ ys)) ≡ g x + (g y + total g ys)
    go (inl e) h = rw e refl
    go (inr e) h = rw e (omega arith)

pub total-sort : {X : Type 0} (cmp : X → X → Ordering) (g : X → ℕ) (xs : List X) → total g (sort cmp xs) ≡ total g xs
total-sort cmp g [] = refl
total-sort cmp g (x ∷ xs) = total-insert cmp g x (sort cmp xs) ∙ ap (λ n. g x + n) (total-sort cmp g xs)

-- a sort is the same bag
pub sort-bag : {X : Type 0} (cmp : X → X → Ordering) (xs : List X) → SameBag (sort cmp xs) xs
sort-bag cmp xs = record { totals = λ g. total-sort cmp g xs }

each-insert : {X : Type 0} (cmp : X → X → Ordering) (P : X → Type 0) (x : X) (ys : List X) → P x → AllByRecursion P ys → AllByRecursion P (insert_sorted cmp x ys)
each-insert cmp P x [] p all = (p, tt)
each-insert cmp P x (y ∷ ys) p all = go (cases_Bool (is_le (cmp x y))) (each-insert cmp P x ys p all.1)
  where
    go : (is_le (cmp x y) ≡ true) ⊎ (is_le (cmp x y) ≡ false) → AllByRecursion P (insert_sorted cmp x ys) → AllByRecursion P (insert_sorted cmp x (y ∷ ys))
    go (inl e) h = rw e (p, all)
    go (inr e) h = rw e (all.0, h)

pub each-sort : {X : Type 0} (cmp : X → X → Ordering) (P : X → Type 0) (xs : List X) → AllByRecursion P xs → AllByRecursion P (sort cmp xs)
each-sort cmp P [] all = tt
each-sort cmp P (x ∷ xs) all = each-insert cmp P x (sort cmp xs) all.0 (each-sort cmp P xs all.1)

-- ---- a sort is in order

rising-insert : {X : Type 0} {cmp : X → X → Ordering} → IsTotalOrder cmp → (x : X) (ys : List X) → IsRising cmp ys → IsRising cmp (insert_sorted cmp x ys)
rising-insert o x [] r = (tt, tt)
rising-insert {X} {cmp} o x (y ∷ ys) r = go (cases_Bool (is_le (cmp x y))) (rising-insert o x ys r.1)
  where
    go : (is_le (cmp x y) ≡ true) ⊎ (is_le (cmp x y) ≡ false) → IsRising cmp (insert_sorted cmp x ys) → IsRising cmp (insert_sorted cmp x (y ∷ ys))
    go (inl e) h = rw e ((e, each-weaker (λ z. is_le (cmp y z) ≡ true) (λ z. is_le (cmp x z) ≡ true) (λ z l. le-trans o x y z e l) ys r.0), r)
    go (inr e) h = rw e (each-insert cmp (λ z. is_le (cmp y z) ≡ true) x ys (le-from o x y e) r.0, h)

pub rising-sort : {X : Type 0} {cmp : X → X → Ordering} → IsTotalOrder cmp → (xs : List X) → IsRising cmp (sort cmp xs)
rising-sort o [] = tt
rising-sort {X} {cmp} o (x ∷ xs) = rising-insert o x (sort cmp xs) (rising-sort o xs)

-- ---- equal bags in order are one list

-- one is counted for each item that y isn't at most
abbrev above : {X : Type 0} → (X → X → Ordering) → X → X → ℕ
above cmp y z = cond (is_le (cmp y z)) 0 1

none-above : {X : Type 0} (cmp : X → X → Ordering) (y : X) (zs : List X) → AllByRecursion (λ z. is_le (cmp y z) ≡ true) zs → total (above cmp y) zs ≡ 0
none-above cmp y [] all = refl
none-above cmp y (z ∷ zs) all = let h : total (above cmp y) zs ≡ 0 = none-above cmp y zs all.1 in rw all.0 (omega arith)

first-below : {X : Type 0} {cmp : X → X → Ordering} → IsTotalOrder cmp → (x y : X) (xs ys : List X) → AllByRecursion (λ z. is_le (cmp y z) ≡ true) ys → SameBag (x ∷ xs) (y ∷ ys) → is_le (cmp y x) ≡ true
first-below {X} {cmp} o x y xs ys all s = go (cases_Bool (is_le (cmp y x)))
  where
    none : above cmp y x + total (above cmp y) xs ≡ 0
    none = s.totals (above cmp y) ∙ none-above cmp y (y ∷ ys) (le-self o y, all)

    go : (is_le (cmp y x) ≡ true) ⊎ (is_le (cmp y x) ≡ false) → is_le (cmp y x) ≡ true
    go (inl e) = e
    go (inr e) = let h : 1 + total (above cmp y) xs ≡ 0 = rw e at none in absurd (omega arith)

pub rising-same : {X : Type 0} {cmp : X → X → Ordering} → IsTotalOrder cmp → CmpEqualImpliesEq cmp → (xs ys : List X) → IsRising cmp xs → IsRising cmp ys → SameBag xs ys → xs ≡ ys
rising-same o t [] [] r q s = refl
rising-same o t [] (y ∷ ys) r q s = absurd (let e : 0 ≡ 1 + total (λ y. 1) ys = s.totals (λ y. 1) in omega arith)
rising-same o t (x ∷ xs) [] r q s = absurd (let e : 1 + total (λ y. 1) xs ≡ 0 = s.totals (λ y. 1) in omega arith)
rising-same {X} {cmp} o t (x ∷ xs) (y ∷ ys) r q s =
    let e : x ≡ y = t x y (tied-from o x y (first-below o y x ys xs r.0 (same-sym s)) (first-below o x y xs ys q.0 s)) in
    ap₂ (λ (z : X) (zs : List X). z ∷ zs) e (rising-same o t xs ys r.1 q.1 (record {
      totals = λ g.
          let a : g x + total g xs ≡ g y + total g ys = s.totals g in
          let b : g x ≡ g y = ap g e in
          omega arith;
    }))

-- equal bags whose ties are one item sort to one list
pub sort-same : {X : Type 0} (cmp : X → X → Ordering) → IsTotalOrder cmp → CmpEqualImpliesEq cmp → (xs ys : List X) → SameBag xs ys → sort cmp xs ≡ sort cmp ys
sort-same cmp o t xs ys s = rising-same o t (sort cmp xs) (sort cmp ys) (rising-sort o xs) (rising-sort o ys)
    (same-trans (sort-bag cmp xs) (same-trans s (same-sym (sort-bag cmp ys))))

-- ---- the standard library's order of a list

sorted-tail : {X : Type 0} (cmp : X → X → Ordering) (x : X) (xs : List X) → IsSorted cmp (x ∷ xs) → IsSorted cmp xs
sorted-tail cmp x xs s k d l h =
    let next : slice_index_or (x ∷ xs) (k + 1 + 1) d ≡ slice_index_or xs (k + 1) d = rw (add-one (k + 1)) refl in
    let this : slice_index_or (x ∷ xs) (k + 1) d ≡ slice_index_or xs k d = rw (add-one k) refl in
    ap₂ (λ a b. is_lt (cmp a b)) (sym next) (sym this) ∙ s (k + 1) d (omega arith) (omega arith)

-- each item is at most the next
abbrev IsStepwise : {X : Type 0} → (X → X → Ordering) → X → List X → Type 0
IsStepwise cmp x [] = Unit {0}
IsStepwise cmp x (y ∷ ys) = (is_le (cmp x y) ≡ true) × IsStepwise cmp y ys

stepwise-sorted : {X : Type 0} {cmp : X → X → Ordering} → IsTotalOrder cmp → (x : X) (xs : List X) → IsSorted cmp (x ∷ xs) → IsStepwise cmp x xs
stepwise-sorted o x [] s = tt
stepwise-sorted {X} {cmp} o x (y ∷ ys) s = (le-from_not_lt o y x (s 0 x (omega arith) (omega arith)), stepwise-sorted o y ys (sorted-tail cmp x (y ∷ ys) s))

below-stepwise : {X : Type 0} {cmp : X → X → Ordering} → IsTotalOrder cmp → (w x : X) (xs : List X) → is_le (cmp w x) ≡ true → IsStepwise cmp x xs → AllByRecursion (λ z. is_le (cmp w z) ≡ true) (x ∷ xs)
below-stepwise o w x [] l s = (l, tt)
below-stepwise o w x (y ∷ ys) l s = (l, below-stepwise o w y ys (le-trans o w x y l s.0) s.1)

rising-stepwise : {X : Type 0} {cmp : X → X → Ordering} → IsTotalOrder cmp → (x : X) (xs : List X) → IsStepwise cmp x xs → IsRising cmp (x ∷ xs)
rising-stepwise o x [] s = (tt, tt)
rising-stepwise o x (y ∷ ys) s = (below-stepwise o x y ys s.0 s.1, rising-stepwise o y ys s.1)

pub rising-sorted : {X : Type 0} {cmp : X → X → Ordering} → IsTotalOrder cmp → (xs : List X) → IsSorted cmp xs → IsRising cmp xs
rising-sorted o [] s = tt
rising-sorted o (x ∷ xs) s = rising-stepwise o x xs (stepwise-sorted o x xs s)

-- a list in order, of the same bag, is the sort, where ties are one item
pub sort-sorted_bag : {X : Type 0} (cmp : X → X → Ordering) → IsTotalOrder cmp → CmpEqualImpliesEq cmp → (xs ys : List X) → SameBag xs ys → IsSorted cmp ys → ys ≡ sort cmp xs
sort-sorted_bag cmp o t xs ys s up = rising-same o t ys (sort cmp xs) (rising-sorted o ys up) (rising-sort o xs) (same-trans (same-sym s) (same-sym (sort-bag cmp xs)))

-- what an unstable sort of the standard library ensures
pub sort-sorted : {X : Type 0} (cmp : X → X → Ordering) → IsTotalOrder cmp → CmpEqualImpliesEq cmp → (xs ys : List X) → IsPermutation xs ys → IsSorted cmp ys → ys ≡ sort cmp xs
sort-sorted cmp o t xs ys p up = sort-sorted_bag cmp o t xs ys (same-permutation xs ys p) up

-- ---- a sort moves through a map

insert-map : {X Y : Type 0} (cmp : Y → Y → Ordering) (f : X → Y) (x : X) (ys : List X) → insert_sorted cmp (f x) (map f ys) ≡ map f (insert_sorted (λ a b. cmp (f a) (f b)) x ys)
insert-map cmp f x [] = refl
insert-map {X} {Y} cmp f x (y ∷ ys) = go (cases_Bool (is_le (cmp (f x) (f y)))) (insert-map cmp f x ys)
  where
    go : (is_le (cmp (f x) (f y)) ≡ true) ⊎ (is_le (cmp (f x) (f y)) ≡ false) → insert_sorted cmp (f x) (map f ys) ≡ map f (insert_sorted (λ a b. cmp (f a) (f b)) x ys) →
        insert_sorted cmp (f x) (f y ∷ map f ys) ≡ map f (insert_sorted (λ a b. cmp (f a) (f b)) x (y ∷ ys))
    go (inl e) h = rw e refl
    go (inr e) h = rw e (ap (λ (zs : List Y). f y ∷ zs) h)

pub map-sort : {X Y : Type 0} (cmp : Y → Y → Ordering) (f : X → Y) (xs : List X) → sort cmp (map f xs) ≡ map f (sort (λ a b. cmp (f a) (f b)) xs)
map-sort cmp f [] = refl
map-sort cmp f (x ∷ xs) = ap (insert_sorted cmp (f x)) (map-sort cmp f xs) ∙ insert-map cmp f x (sort (λ a b. cmp (f a) (f b)) xs)

insert-test : {X : Type 0} (cmp alt : X → X → Ordering) → ((x y : X) → is_le (cmp x y) ≡ is_le (alt x y)) → (x : X) (ys : List X) → insert_sorted cmp x ys ≡ insert_sorted alt x ys
insert-test cmp alt e x [] = refl
insert-test {X} cmp alt e x (y ∷ ys) = ap₂ (λ (b : Bool) (zs : List X). if b then x ∷ y ∷ ys else y ∷ zs) (e x y) (insert-test cmp alt e x ys)

-- comparisons that tell alike sort alike
pub sort-test : {X : Type 0} (cmp alt : X → X → Ordering) → ((x y : X) → is_le (cmp x y) ≡ is_le (alt x y)) → (xs : List X) → sort cmp xs ≡ sort alt xs
sort-test cmp alt e [] = refl
sort-test cmp alt e (x ∷ xs) = insert-test cmp alt e x (sort cmp xs) ∙ ap (insert_sorted alt x) (sort-test cmp alt e xs)

insert-first : {X : Type 0} (cmp : X → X → Ordering) → ((x y : X) → is_le (cmp x y) ≡ true) → (x : X) (ys : List X) → insert_sorted cmp x ys ≡ x ∷ ys
insert-first cmp all x [] = refl
insert-first cmp all x (y ∷ ys) = rw (all x y) refl

-- a sort by nothing changes nothing
pub sort-nothing : {X : Type 0} (cmp : X → X → Ordering) → ((x y : X) → is_le (cmp x y) ≡ true) → (xs : List X) → sort cmp xs ≡ xs
sort-nothing cmp all [] = refl
sort-nothing cmp all (x ∷ xs) = rw (sort-nothing cmp all xs) (insert-first cmp all x xs)

-- ---- the first of equal items, under a map that keeps the test

any-map : {X Y : Type 0} (p : Y → Bool) (q : X → Bool) (f : X → Y) → ((x : X) → p (f x) ≡ q x) → (xs : List X) → list_any p (map f xs) ≡ list_any q xs
any-map p q f e [] = refl
any-map p q f e (x ∷ xs) = ap₂ (λ (a b : Bool). a || b) (e x) (any-map p q f e xs)

pub map-firsts : {X Y : Type 0} (same : X → X → Bool) (equal : Y → Y → Bool) (f : X → Y) → ((x y : X) → equal (f x) (f y) ≡ same x y) → (seen xs : List X) → firsts equal (map f seen) (map f xs) ≡ map f (firsts same seen xs)
map-firsts same equal f e seen [] = refl
map-firsts {X} {Y} same equal f e seen (x ∷ xs) = go (cases_Bool (list_any (same x) seen)) (map-firsts same equal f e seen xs) (map-firsts same equal f e (x ∷ seen) xs)
  where
    go : (list_any (same x) seen ≡ true) ⊎ (list_any (same x) seen ≡ false) → firsts equal (map f seen) (map f xs) ≡ map f (firsts same seen xs) → firsts equal (f x ∷ map f seen) (map f xs) ≡ map f (firsts same (x ∷ seen) xs) →
        firsts equal (map f seen) (f x ∷ map f xs) ≡ map f (firsts same seen (x ∷ xs))
    go (inl h) a b = rw (any-map (equal (f x)) (same x) f (e x) seen, h) a
    go (inr h) a b = rw (any-map (equal (f x)) (same x) f (e x) seen, h) (ap (λ (zs : List Y). f x ∷ zs) b)
