-- What holds of each item, and sums that compare.
use Rattle.std.proofs.Common.{◌≡◌, ℕ, zero, suc, ◌+◌, ◌≤◌, ◌<◌, ◌||◌, not, Bool, true, false, List, [], ◌∷◌, ◌++◌, refl, ap, ◌∙◌, arith}
use Rattle.std.specs.List.{list_any, flat_map, AllByRecursion}
use Rattle.bags.specs.Bag.{total, SameBag}
use Rattle.layout_meaning.specs.Sound.{one_if}

pub each-two : {X : Type 0} (P Q R : X → Type 0) → ((x : X) → P x → Q x → R x) → (xs : List X) → AllByRecursion P xs → AllByRecursion Q xs → AllByRecursion R xs
each-two P Q R f [] a b = tt
each-two P Q R f (x ∷ xs) a b = (f x a.0 b.0, each-two P Q R f xs a.1 b.1)

pub each-front : {X : Type 0} (P : X → Type 0) (xs ys : List X) → AllByRecursion P (xs ++ ys) → AllByRecursion P xs × AllByRecursion P ys
each-front P [] ys h = (tt, h)
each-front P (x ∷ xs) ys h = let r = each-front P xs ys h.1 in ((h.0, r.0), r.1)

pub each-unmap : {X Y : Type 0} (P : Y → Type 0) (f : X → List Y) (xs : List X) → AllByRecursion P (flat_map f xs) → AllByRecursion (λ x. AllByRecursion P (f x)) xs
each-unmap P f [] h = tt
each-unmap P f (x ∷ xs) h = let r = each-front P (f x) (flat_map f xs) h in (r.0, each-unmap P f xs r.1)

pub total-below : {X : Type 0} (P : X → Type 0) (f g : X → ℕ) → ((x : X) → P x → f x ≤ g x) → (xs : List X) → AllByRecursion P xs → total f xs ≤ total g xs
total-below P f g h [] a = omega arith
total-below P f g h (x ∷ xs) a = let b : f x ≤ g x = h x a.0 in let r : total f xs ≤ total g xs = total-below P f g h xs a.1 in omega arith

-- each part of a sum is within it
pub each-part : {X : Type 0} (f : ℕ → X → ℕ) (bound : ℕ → ℕ) (xs : List X) → ((n : ℕ) → total (f n) xs ≤ bound n) → AllByRecursion (λ x. (n : ℕ) → f n x ≤ bound n) xs
each-part f bound [] h = tt
each-part f bound (x ∷ xs) h = (λ (n : ℕ). (let a = h n in omega arith), each-part f bound xs (λ (n : ℕ). (let a = h n in omega arith)))

-- where a sum isn't 0, some item gives to it
pub picked : {X : Type 0} (P : X → Type 0) (Q : Type 0) (f : X → ℕ) → ((x : X) → P x → 0 < f x → Q) → (xs : List X) → AllByRecursion P xs → 0 < total f xs → Q
picked P Q f h [] a l = absurd (omega arith)
picked {X} P Q f h (x ∷ xs) a l = by (f x) refl (picked P Q f h xs a.1)
  where
    by : (n : ℕ) → f x ≡ n → (0 < total f xs → Q) → Q
    by zero t rest = rest (omega arith)
    by (suc n) t rest = h x a.0 (omega arith)

-- what fails nowhere in a bag holds of each item of an equal one
pub each-bag : {X : Type 0} (p : X → Bool) (xs ys : List X) → SameBag xs ys → AllByRecursion (λ y. p y ≡ true) ys → AllByRecursion (λ x. p x ≡ true) xs
each-bag {X} p xs ys same h =
    let z : total (λ x. one_if (not (p x))) xs ≡ 0 = same.totals (λ x. one_if (not (p x))) ∙ fails_not ys h in back xs z
  where
    fails_not : (ys : List X) → AllByRecursion (λ y. p y ≡ true) ys → total (λ x. one_if (not (p x))) ys ≡ 0
    fails_not [] a = refl
    fails_not (y ∷ ys) a = let e : one_if (not (p y)) ≡ 0 = ap (λ (b : Bool). one_if (not b)) a.0 in let r : total (λ x. one_if (not (p x))) ys ≡ 0 = fails_not ys a.1 in omega arith

    so : (b : Bool) → one_if (not b) ≡ 0 → b ≡ true
    so true e = refl
    so false e = absurd (omega arith)

    back : (xs : List X) → total (λ x. one_if (not (p x))) xs ≡ 0 → AllByRecursion (λ x. p x ≡ true) xs
    back [] e = tt
    back (x ∷ xs) e = (so (p x) (omega arith), back xs (omega arith))

pub any-flat_map : {X Y : Type 0} (p : Y → Bool) (f : X → List Y) (xs : List X) → list_any p (flat_map f xs) ≡ list_any (λ x. list_any p (f x)) xs
any-flat_map p f [] = refl
any-flat_map p f (x ∷ xs) = any-both p (f x) (flat_map f xs) ∙ ap (λ (b : Bool). list_any p (f x) || b) (any-flat_map p f xs)
  where
    any-both : {Y : Type 0} (p : Y → Bool) (xs ys : List Y) → list_any p (xs ++ ys) ≡ (list_any p xs || list_any p ys)
    any-both p [] ys = refl
    any-both p (x ∷ xs) ys = ap (λ (b : Bool). p x || b) (any-both p xs ys) ∙ or_turned (p x) (list_any p xs) (list_any p ys)
      where
        or_turned : (a b c : Bool) → (a || (b || c)) ≡ ((a || b) || c)
        or_turned true b c = refl
        or_turned false b c = refl

pub any-weaker : {X : Type 0} (p q : X → Bool) → ((x : X) → p x ≡ true → q x ≡ true) → (xs : List X) → list_any p xs ≡ true → list_any q xs ≡ true
any-weaker p q f [] h = cc
any-weaker {X} p q f (x ∷ xs) h = by (p x) refl h (any-weaker p q f xs)
  where
    or_right : (b : Bool) → (b || true) ≡ true
    or_right true = refl
    or_right false = refl

    by : (b : Bool) → p x ≡ b → (b || list_any p xs) ≡ true → (list_any p xs ≡ true → list_any q xs ≡ true) → (q x || list_any q xs) ≡ true
    by true t h ih = ap (λ (b : Bool). b || list_any q xs) (f x t)
    by false t h ih = ap (λ (b : Bool). q x || b) (ih h) ∙ or_right (q x)
