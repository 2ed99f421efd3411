-- The laws of bags: sums along lists, and equal bags under each operation on lists.
use Rattle.std.specs.Prelude.{◌≡◌, ℕ, ◌+◌, ◌⊎◌, Bool, true, false, cond, List, [], ◌∷◌, ◌++◌, map, length, refl}
use Rattle.std.proofs.Common.{sym, ap, ap₂, ◌∙◌, arith, inl, inr}
use Rattle.std.proofs.lemmas.Bool.{cases_Bool, or_parts}
use Rattle.std.specs.List.{flat_map, filter, list_any, AllByRecursion}
use Rattle.bags.specs.Bag.{total, SameBag}

-- ---- sums

pub total-append : {X : Type 0} (g : X → ℕ) (xs ys : List X) → total g (xs ++ ys) ≡ total g xs + total g ys
total-append g [] ys = omega arith
total-append g (x ∷ xs) ys = let h : total g (xs ++ ys) ≡ total g xs + total g ys = total-append g xs ys in omega arith

pub total-map : {X Y : Type 0} (g : Y → ℕ) (f : X → Y) (xs : List X) → total g (map f xs) ≡ total (λ x. g (f x)) xs
total-map g f [] = refl
total-map g f (x ∷ xs) = ap (λ n. g (f x) + n) (total-map g f xs)

pub total-flat_map : {X Y : Type 0} (g : Y → ℕ) (f : X → List Y) (xs : List X) → total g (flat_map f xs) ≡ total (λ x. total g (f x)) xs
total-flat_map g f [] = refl
total-flat_map g f (x ∷ xs) = total-append g (f x) (flat_map f xs) ∙ ap (λ n. total g (f x) + n) (total-flat_map g f xs)

filter_head : {X : Type 0} (g : X → ℕ) (p : X → Bool) (x : X) (xs : List X) (b : Bool) → total g (filter p xs) ≡ total (λ x. cond (p x) (g x) 0) xs → total g (cond b (x ∷ filter p xs) (filter p xs)) ≡ cond b (g x) 0 + total (λ x. cond (p x) (g x) 0) xs
filter_head g p x xs true h = ap (λ n. g x + n) h
filter_head g p x xs false h = let same : total g (filter p xs) ≡ total (λ x. cond (p x) (g x) 0) xs = h in omega arith

pub total-filter : {X : Type 0} (g : X → ℕ) (p : X → Bool) (xs : List X) → total g (filter p xs) ≡ total (λ x. cond (p x) (g x) 0) xs
total-filter g p [] = refl
total-filter g p (x ∷ xs) = filter_head g p x xs (p x) (total-filter g p xs)

-- the terms of a sum may be replaced one by one
pub total-same : {X : Type 0} (g h : X → ℕ) → ((x : X) → g x ≡ h x) → (xs : List X) → total g xs ≡ total h xs
total-same g h e [] = refl
total-same g h e (x ∷ xs) = let a : g x ≡ h x = e x in let b : total g xs ≡ total h xs = total-same g h e xs in omega arith

-- the same for items of which something holds
pub total-each : {X : Type 0} (g h : X → ℕ) (P : X → Type 0) → ((x : X) → P x → g x ≡ h x) → (xs : List X) → AllByRecursion P xs → total g xs ≡ total h xs
total-each g h P e [] all = refl
total-each g h P e (x ∷ xs) all =
    let a : g x ≡ h x = e x all.0 in
    let b : total g xs ≡ total h xs = total-each g h P e xs all.1 in
    omega arith

pub total-plus : {X : Type 0} (g h : X → ℕ) (xs : List X) → total (λ x. g x + h x) xs ≡ total g xs + total h xs
total-plus g h [] = refl
total-plus g h (x ∷ xs) = let b : total (λ x. g x + h x) xs ≡ total g xs + total h xs = total-plus g h xs in omega arith

pub total-zero : {X : Type 0} (xs : List X) → total (λ (x : X). 0) xs ≡ 0
total-zero [] = refl
total-zero (x ∷ xs) = let b : total (λ x. 0) xs ≡ 0 = total-zero xs in omega arith

-- a test that doesn't look at the item stands before the sum
pub total-cond : {X : Type 0} (b : Bool) (g : X → ℕ) (xs : List X) → total (λ x. cond b (g x) 0) xs ≡ cond b (total g xs) 0
total-cond true g xs = refl
total-cond false g xs = total-zero xs

-- a sum over items of which none passes
pub total-none : {X : Type 0} (p : X → Bool) (g : X → ℕ) (xs : List X) → list_any p xs ≡ false → total (λ x. cond (p x) (g x) 0) xs ≡ 0
total-none p g [] e = refl
total-none p g (x ∷ xs) e =
    let h = or_parts (p x) (list_any p xs) e in
    let r : total (λ x. cond (p x) (g x) 0) xs ≡ 0 = total-none p g xs h.1 in
    rw h.0 (omega arith)

-- two nested sums may change places
pub total-swap : {X Y : Type 0} (g : X → Y → ℕ) (xs : List X) (ys : List Y) → total (λ x. total (g x) ys) xs ≡ total (λ y. total (λ x. g x y) xs) ys
total-swap g [] ys = sym (total-zero ys)
total-swap g (x ∷ xs) ys =
    ap (λ n. total (g x) ys + n) (total-swap g xs ys) ∙ sym (total-plus (g x) (λ y. total (λ x. g x y) xs) ys)

-- ---- equal bags

pub same-refl : {X : Type 0} (xs : List X) → SameBag xs xs
same-refl xs = record { totals = λ g. refl }

pub same-sym : {X : Type 0} {xs ys : List X} → SameBag xs ys → SameBag ys xs
same-sym s = record { totals = λ g. sym (s.totals g) }

pub same-trans : {X : Type 0} {xs ys zs : List X} → SameBag xs ys → SameBag ys zs → SameBag xs zs
same-trans s t = record { totals = λ g. s.totals g ∙ t.totals g }

pub same-append : {X : Type 0} (xs ys us vs : List X) → SameBag xs ys → SameBag us vs → SameBag (xs ++ us) (ys ++ vs)
same-append xs ys us vs s t = record {
  totals = λ g.
      let a : total g xs ≡ total g ys = s.totals g in
      let b : total g us ≡ total g vs = t.totals g in
      let c : total g (xs ++ us) ≡ total g xs + total g us = total-append g xs us in
      let d : total g (ys ++ vs) ≡ total g ys + total g vs = total-append g ys vs in
      omega arith;
}

-- two lists one after the other are one bag either way round
pub same-append_comm : {X : Type 0} (xs ys : List X) → SameBag (xs ++ ys) (ys ++ xs)
same-append_comm xs ys = record {
  totals = λ g.
      let a : total g (xs ++ ys) ≡ total g xs + total g ys = total-append g xs ys in
      let b : total g (ys ++ xs) ≡ total g ys + total g xs = total-append g ys xs in
      omega arith;
}

pub same-map : {X Y : Type 0} (f : X → Y) (xs ys : List X) → SameBag xs ys → SameBag (map f xs) (map f ys)
same-map f xs ys s = record { totals = λ g. total-map g f xs ∙ s.totals (λ x. g (f x)) ∙ sym (total-map g f ys) }

pub same-filter : {X : Type 0} (p : X → Bool) (xs ys : List X) → SameBag xs ys → SameBag (filter p xs) (filter p ys)
same-filter p xs ys s = record { totals = λ g. total-filter g p xs ∙ s.totals (λ x. cond (p x) (g x) 0) ∙ sym (total-filter g p ys) }

-- in the list, and in what is made of each item
pub same-flat_map : {X Y : Type 0} (f h : X → List Y) (xs ys : List X) → SameBag xs ys → ((x : X) → SameBag (f x) (h x)) → SameBag (flat_map f xs) (flat_map h ys)
same-flat_map f h xs ys s e = record {
  totals = λ g.
      total-flat_map g f xs ∙ s.totals (λ x. total g (f x)) ∙ total-same (λ x. total g (f x)) (λ x. total g (h x)) (λ x. (e x).totals g) ys ∙ sym (total-flat_map g h ys);
}

-- the same for items of which something holds
pub same-flat_map_each : {X Y : Type 0} (f h : X → List Y) (P : X → Type 0) (xs : List X) → AllByRecursion P xs → ((x : X) → P x → SameBag (f x) (h x)) → SameBag (flat_map f xs) (flat_map h xs)
same-flat_map_each f h P xs all e = record {
  totals = λ g.
      total-flat_map g f xs ∙ total-each (λ x. total g (f x)) (λ x. total g (h x)) P (λ x p. (e x p).totals g) xs all ∙ sym (total-flat_map g h xs);
}

-- two nested loops may change places
pub same-loops : {X Y Z : Type 0} (f : X → Y → List Z) (xs : List X) (ys : List Y) → SameBag (flat_map (λ x. flat_map (f x) ys) xs) (flat_map (λ y. flat_map (λ x. f x y) xs) ys)
same-loops f xs ys = record {
  totals = λ g.
      total-flat_map g (λ x. flat_map (f x) ys) xs
      ∙ total-same _ _ (λ x. total-flat_map g (f x) ys) xs
      ∙ total-swap (λ x y. total g (f x y)) xs ys
      ∙ total-same _ _ (λ y. sym (total-flat_map g (λ x. f x y) xs)) ys
      ∙ sym (total-flat_map g (λ y. flat_map (λ x. f x y) xs) ys);
}

-- a loop over a loop's items
pub same-flat_map_flat_map : {X Y Z : Type 0} (f : Y → List Z) (h : X → List Y) (xs : List X) → SameBag (flat_map f (flat_map h xs)) (flat_map (λ x. flat_map f (h x)) xs)
same-flat_map_flat_map f h xs = record {
  totals = λ g.
      total-flat_map g f (flat_map h xs)
      ∙ total-flat_map (λ y. total g (f y)) h xs
      ∙ total-same _ _ (λ x. sym (total-flat_map g f (h x))) xs
      ∙ sym (total-flat_map g (λ x. flat_map f (h x)) xs);
}

-- those that pass and those that fail are all
pub same-split : {X : Type 0} (p q : X → Bool) → ((x : X) (n : ℕ) → cond (p x) n 0 + cond (q x) n 0 ≡ n) → (xs : List X) → SameBag (filter p xs ++ filter q xs) xs
same-split p q e xs = record {
  totals = λ g.
      total-append g (filter p xs) (filter q xs)
      ∙ ap₂ (λ (a b : ℕ). a + b) (total-filter g p xs) (total-filter g q xs)
      ∙ sym (total-plus (λ x. cond (p x) (g x) 0) (λ x. cond (q x) (g x) 0) xs)
      ∙ total-same _ _ (λ x. e x (g x)) xs;
}

pub total-one_each : {X : Type 0} (xs : List X) → total (λ (x : X). 1) xs ≡ length xs
total-one_each [] = refl
total-one_each (x ∷ xs) = let h : total (λ x. 1) xs ≡ length xs = total-one_each xs in omega arith

-- equal bags are as long
pub same-length : {X : Type 0} (xs ys : List X) → SameBag xs ys → length xs ≡ length ys
same-length xs ys s = sym (total-one_each xs) ∙ s.totals (λ x. 1) ∙ total-one_each ys

-- a bag that holds nothing
pub same-empty : {X : Type 0} (xs : List X) → SameBag xs [] → xs ≡ []
same-empty [] s = refl
same-empty (x ∷ xs) s = absurd (let e : 1 + total (λ x. 1) xs ≡ 0 = s.totals (λ x. 1) in omega arith)

-- what is left where one item is taken out of both
pub same-rest : {X : Type 0} (x : X) (xs ys : List X) → SameBag (x ∷ xs) (x ∷ ys) → SameBag xs ys
same-rest x xs ys s = record { totals = λ g. let e : g x + total g xs ≡ g x + total g ys = s.totals g in omega arith }

none_of : {X : Type 0} (p : X → Bool) (xs : List X) → total (λ x. cond (p x) 1 0) xs ≡ 0 → list_any p xs ≡ false
none_of p [] e = refl
none_of p (x ∷ xs) e = go (cases_Bool (p x)) (none_of p xs)
  where
    go : (p x ≡ true) ⊎ (p x ≡ false) → (total (λ x. cond (p x) 1 0) xs ≡ 0 → list_any p xs ≡ false) → list_any p (x ∷ xs) ≡ false
    go (inl h) rest = absurd (let n : 1 + total (λ x. cond (p x) 1 0) xs ≡ 0 = rw h at e in omega arith)
    go (inr h) rest = rw h (rest (let n : 0 + total (λ x. cond (p x) 1 0) xs ≡ 0 = rw h at e in omega arith))

-- an item that passes is in both or in neither
pub same-any : {X : Type 0} (p : X → Bool) (xs ys : List X) → SameBag xs ys → list_any p xs ≡ list_any p ys
same-any p xs ys s = go (cases_Bool (list_any p xs)) (cases_Bool (list_any p ys))
  where
    go : (list_any p xs ≡ true) ⊎ (list_any p xs ≡ false) → (list_any p ys ≡ true) ⊎ (list_any p ys ≡ false) → list_any p xs ≡ list_any p ys
    go (inl a) (inl b) = a ∙ sym b
    go (inr a) (inr b) = a ∙ sym b
    go (inl a) (inr b) = none_of p xs (s.totals (λ x. cond (p x) 1 0) ∙ total-none p (λ x. 1) ys b) ∙ sym b
    go (inr a) (inl b) = a ∙ sym (none_of p ys (sym (s.totals (λ x. cond (p x) 1 0)) ∙ total-none p (λ x. 1) xs a))

-- ---- what holds of each item

pub each-append : {X : Type 0} (P : X → Type 0) (xs ys : List X) → AllByRecursion P xs → AllByRecursion P ys → AllByRecursion P (xs ++ ys)
each-append P [] ys a b = b
each-append P (x ∷ xs) ys a b = (a.0, each-append P xs ys a.1 b)

pub each-map : {X Y : Type 0} (P : Y → Type 0) (f : X → Y) (xs : List X) → AllByRecursion (λ x. P (f x)) xs → AllByRecursion P (map f xs)
each-map P f [] a = tt
each-map P f (x ∷ xs) a = (a.0, each-map P f xs a.1)

pub each-flat_map : {X Y : Type 0} (P : Y → Type 0) (f : X → List Y) (xs : List X) → AllByRecursion (λ x. AllByRecursion P (f x)) xs → AllByRecursion P (flat_map f xs)
each-flat_map P f [] a = tt
each-flat_map P f (x ∷ xs) a = each-append P (f x) (flat_map f xs) a.0 (each-flat_map P f xs a.1)

pub each-weaker : {X : Type 0} (P Q : X → Type 0) → ((x : X) → P x → Q x) → (xs : List X) → AllByRecursion P xs → AllByRecursion Q xs
each-weaker P Q f [] a = tt
each-weaker P Q f (x ∷ xs) a = (f x a.0, each-weaker P Q f xs a.1)

pub each-any : {X : Type 0} (P : X → Type 0) → ((x : X) → P x) → (xs : List X) → AllByRecursion P xs
each-any P f [] = tt
each-any P f (x ∷ xs) = (f x, each-any P f xs)

filter_step : {X : Type 0} (P : X → Type 0) (p : X → Bool) (x : X) (xs : List X) (b : Bool) → P x → AllByRecursion P (filter p xs) → AllByRecursion P (cond b (x ∷ filter p xs) (filter p xs))
filter_step P p x xs true h all = (h, all)
filter_step P p x xs false h all = all

pub each-filter : {X : Type 0} (P : X → Type 0) (p : X → Bool) (xs : List X) → AllByRecursion P xs → AllByRecursion P (filter p xs)
each-filter P p [] a = tt
each-filter P p (x ∷ xs) a = filter_step P p x xs (p x) a.0 (each-filter P p xs a.1)
