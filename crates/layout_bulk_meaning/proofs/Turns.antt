-- What is made in turn, each from the number of its first list.
use Rattle.std.proofs.Common.{◌≡◌, ◌<◌, ℕ, ◌+◌, ◌&&◌, nat_le, nat_lt, Bool, true, false, List, [], ◌∷◌, ◌++◌, length, refl, sym, arith, subst}
use Rattle.std.specs.List.{flat_map, AllByRecursion}
use Rattle.std.proofs.lemmas.Bool.Decides.{nat_tests}
use Rattle.bags.specs.Bag.{total}
use Rattle.layout_meaning.specs.Side.{ValueLists, elements_of}
use Rattle.layout_meaning.specs.Sound.{one_if}
use Rattle.layout_bulk_meaning.specs.Appended.{in_turn}

pub turn-length : {X Y : Type 0} (c : X → ℕ) (f : ℕ → X → Y) (n : ℕ) (xs : List X) → length (in_turn c f n xs) ≡ length xs
turn-length c f n [] = refl
turn-length c f n (x ∷ xs) = omega (arith, turn-length c f (n + c x) xs)

pub turn-all : {X Y : Type 0} (c : X → ℕ) (f : ℕ → X → Y) (P : X → Type 0) (Q : Y → Type 0) → ((n : ℕ) (x : X) → P x → Q (f n x)) → (n : ℕ) (xs : List X) → AllByRecursion P xs → AllByRecursion Q (in_turn c f n xs)
turn-all c f P Q each n [] a = tt
turn-all c f P Q each n (x ∷ xs) a = (each n x a.0, turn-all c f P Q each (n + c x) xs a.1)

-- a weight on which numbers have no bearing
pub turn-same : {X Y : Type 0} (c : X → ℕ) (f : ℕ → X → Y) (g : Y → ℕ) (h : X → ℕ) → ((n : ℕ) (x : X) → g (f n x) ≡ h x) → (n : ℕ) (xs : List X) → total g (in_turn c f n xs) ≡ total h xs
turn-same c f g h each n [] = refl
turn-same c f g h each n (x ∷ xs) = omega (arith, each n x, turn-same c f g h each (n + c x) xs)

-- 1 where m is one of k numbers from n on
abbrev pub inside : ℕ → ℕ → ℕ → ℕ
inside m n k = one_if (nat_le n m && nat_lt m (n + k))

inside-none : (m n : ℕ) → inside m n 0 ≡ 0
inside-none m n = by (nat_le n m) refl (nat_lt m (n + 0)) refl
  where
    by : (a : Bool) → nat_le n m ≡ a → (b : Bool) → nat_lt m (n + 0) ≡ b → one_if (a && b) ≡ 0
    by true t true u = absurd (grind (arith, nat_tests))
    by true t false u = refl
    by false t b u = refl

inside-more : (m n a b : ℕ) → inside m n a + inside m (n + a) b ≡ inside m n (a + b)
inside-more m n a b = by (nat_le n m) refl (nat_lt m (n + a)) refl (nat_le (n + a) m) refl (nat_lt m (n + a + b)) refl (nat_lt m (n + (a + b))) refl
  where
    by : (p : Bool) → nat_le n m ≡ p → (q : Bool) → nat_lt m (n + a) ≡ q → (r : Bool) → nat_le (n + a) m ≡ r → (s : Bool) → nat_lt m (n + a + b) ≡ s → (t : Bool) → nat_lt m (n + (a + b)) ≡ t
        → one_if (p && q) + one_if (r && s) ≡ one_if (p && t)
    by true e true f true g s h t i = absurd (grind (arith, nat_tests))
    by true e true f false g s h true i = refl
    by true e true f false g s h false i = absurd (grind (arith, nat_tests))
    by true e false f true g true h true i = refl
    by true e false f true g true h false i = absurd (grind (arith, nat_tests))
    by true e false f true g false h true i = absurd (grind (arith, nat_tests))
    by true e false f true g false h false i = refl
    by true e false f false g s h t i = absurd (grind (arith, nat_tests))
    by false e q f true g s h t i = absurd (grind (arith, nat_tests))
    by false e q f false g s h t i = refl

-- a weight that counts a number
pub turn-inside : {X Y : Type 0} (c : X → ℕ) (f : ℕ → X → Y) (g : Y → ℕ) (m : ℕ) → ((n : ℕ) (x : X) → g (f n x) ≡ inside m n (c x)) → (n : ℕ) (xs : List X) → total g (in_turn c f n xs) ≡ inside m n (total c xs)
turn-inside c f g m each n [] = sym (inside-none m n)
turn-inside c f g m each n (x ∷ xs) = omega (arith, each n x, turn-inside c f g m each (n + c x) xs, inside-more m n (c x) (total c xs))

-- the lists from n on are these
abbrev pub Hold : ValueLists → ℕ → List (List ℕ) → Type 0
Hold lists n [] = Unit {0}
Hold lists n (xs ∷ xss) = (elements_of lists n ≡ xs) × Hold lists (n + 1) xss

pub hold-front : (lists : ValueLists) (n : ℕ) (xss yss : List (List ℕ)) → Hold lists n (xss ++ yss) → Hold lists n xss
hold-front lists n [] yss h = tt
hold-front lists n (xs ∷ xss) yss h = (h.0, hold-front lists (n + 1) xss yss h.1)

pub hold-back : (lists : ValueLists) (n : ℕ) (xss yss : List (List ℕ)) → Hold lists n (xss ++ yss) → Hold lists (n + length xss) yss
hold-back lists n [] yss h = let e : n + 0 ≡ n = omega arith in rw e h
hold-back lists n (xs ∷ xss) yss h =
    let e : n + 1 + length xss ≡ n + length (xs ∷ xss) = omega arith in
    subst (λ (m : ℕ). Hold lists m yss) e (hold-back lists (n + 1) xss yss h.1)

-- a weight that looks at the lists
pub turn-holds : {X Y : Type 0} (c : X → ℕ) (f : ℕ → X → Y) (g : Y → ℕ) (h : X → ℕ) (L : X → List (List ℕ)) (lists : ValueLists) → ((x : X) → length (L x) ≡ c x) → ((n : ℕ) (x : X) → Hold lists n (L x) → g (f n x) ≡ h x)
    → (n : ℕ) (xs : List X) → Hold lists n (flat_map L xs) → total g (in_turn c f n xs) ≡ total h xs
turn-holds c f g h L lists count each n [] k = refl
turn-holds c f g h L lists count each n (x ∷ xs) k =
    let a = each n x (hold-front lists n (L x) (flat_map L xs) k) in
    let b = turn-holds c f g h L lists count each (n + c x) xs (subst (λ (m : ℕ). Hold lists (n + m) (flat_map L xs)) (count x) (hold-back lists n (L x) (flat_map L xs) k)) in
    omega (arith, a, b)

pub length-append : {X : Type 0} (xs ys : List X) → length (xs ++ ys) ≡ length xs + length ys
length-append [] ys = omega arith
length-append (x ∷ xs) ys = omega (arith, length-append xs ys)

pub length-flat : {X Y : Type 0} (c : X → ℕ) (L : X → List Y) → ((x : X) → length (L x) ≡ c x) → (xs : List X) → length (flat_map L xs) ≡ total c xs
length-flat c L count [] = refl
length-flat c L count (x ∷ xs) = omega (arith, length-append (L x) (flat_map L xs), count x, length-flat c L count xs)

pub each-append : {X : Type 0} (P : X → Type 0) (xs ys : List X) → AllByRecursion P xs → AllByRecursion P ys → AllByRecursion P (xs ++ ys)
each-append P [] ys a b = b
each-append P (x ∷ xs) ys a b = (a.0, each-append P xs ys a.1 b)

-- what holds of each list that is named
pub flat-each : {X Y : Type 0} (P : Y → Type 0) (Good : ℕ → Type 0) (N : ℕ → X → ℕ) (L : X → List Y) → ((x : X) → ((m : ℕ) → 0 < N m x → Good m) → AllByRecursion P (L x))
    → (xs : List X) → ((m : ℕ) → 0 < total (N m) xs → Good m) → AllByRecursion P (flat_map L xs)
flat-each P Good N L each [] h = tt
flat-each P Good N L each (x ∷ xs) h =
    each-append P (L x) (flat_map L xs) (each x (λ m l. h m (omega arith))) (flat-each P Good N L each xs (λ m l. h m (omega arith)))
