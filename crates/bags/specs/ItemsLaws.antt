-- Lists compared by the first items that differ: a total order where that of the items is one.
use Rattle.std.specs.Prelude.{◌≡◌, ◌⊎◌, Bool, true, false, List, [], ◌∷◌, refl}
use Rattle.std.proofs.Common.{sym, ap, ap₂, ◌∙◌, inl, inr}
use Rattle.std.proofs.lemmas.Bool.{and_parts}
use Rattle.std.specs.Cmp.{IsTotalOrder}
use Rattle.std.proofs.lemmas.Map.Lookups.{CmpEqualImpliesEq}
use Rattle.std.proofs.lemmas.Cmp.{alike_right}
use Rattle.std.specs.declared.cmp.Ordering.{Ordering}
use Rattle.std.specs.declared.cmp.Ordering.TheVariants.{Less, Equal, Greater}
use Rattle.std.specs.Ordering.{ordering_then, ordering_reverse}
use Rattle.bags.specs.Sort.{turned, first_flag, rest_flags, by_items, same_items}

less_cases : (a b : Ordering) → ordering_then a b ≡ Less → (a ≡ Less) ⊎ ((a ≡ Equal) × (b ≡ Less))
less_cases Less b e = inl refl
less_cases Equal b e = inr (refl, e)
less_cases Greater b e = cc

less_first : (a b : Ordering) → a ≡ Less → ordering_then a b ≡ Less
less_first a b e = rw e refl

equal_parts : (a b : Ordering) → ordering_then a b ≡ Equal → (a ≡ Equal) × (b ≡ Equal)
equal_parts Less b e = cc
equal_parts Equal b e = (refl, e)
equal_parts Greater b e = cc

reverse_then : (a b : Ordering) → ordering_then (ordering_reverse a) (ordering_reverse b) ≡ ordering_reverse (ordering_then a b)
reverse_then Less b = refl
reverse_then Equal b = refl
reverse_then Greater b = refl

less_reversed : (a : Ordering) → ordering_reverse a ≡ Less → a ≡ Greater
less_reversed Less e = cc
less_reversed Equal e = cc
less_reversed Greater e = refl

equal_reversed : (a : Ordering) → ordering_reverse a ≡ Equal → a ≡ Equal
equal_reversed Less e = cc
equal_reversed Equal e = refl
equal_reversed Greater e = cc

-- an order the other way round
pub turned_total : {X : Type 0} {cmp : X → X → Ordering} → IsTotalOrder cmp → (down : Bool) → IsTotalOrder (λ x y. turned down (cmp x y))
turned_total o false = record { antisymm = o.antisymm; trans = o.trans; congr = o.congr }
turned_total {X} {cmp} o true = record {
  antisymm = λ x y. ap ordering_reverse (o.antisymm x y);
  trans = λ x y z a b.
      let yx : cmp y x ≡ Less = o.antisymm y x ∙ a in
      let zy : cmp z y ≡ Less = o.antisymm z y ∙ b in
      sym (o.antisymm z x) ∙ o.trans z y x zy yx;
  congr = λ x y z a. ap ordering_reverse (o.congr x y z (equal_reversed (cmp x y) a));
}

pub turned_ties : {X : Type 0} {cmp : X → X → Ordering} → CmpEqualImpliesEq cmp → (down : Bool) → CmpEqualImpliesEq (λ x y. turned down (cmp x y))
turned_ties t false x y e = t x y e
turned_ties {X} {cmp} t true x y e = t x y (equal_reversed (cmp x y) e)

items_antisymm : {X : Type 0} {cmp : X → X → Ordering} → IsTotalOrder cmp → (downs : List Bool) (xs ys : List X) → by_items cmp downs xs ys ≡ ordering_reverse (by_items cmp downs ys xs)
items_antisymm o downs [] [] = refl
items_antisymm o downs [] (y ∷ ys) = refl
items_antisymm o downs (x ∷ xs) [] = refl
items_antisymm {X} {cmp} o downs (x ∷ xs) (y ∷ ys) =
    ap₂ ordering_then ((turned_total o (first_flag downs)).antisymm x y) (items_antisymm o (rest_flags downs) xs ys)
    ∙ reverse_then (turned (first_flag downs) (cmp y x)) (by_items cmp (rest_flags downs) ys xs)

items_congr : {X : Type 0} {cmp : X → X → Ordering} → IsTotalOrder cmp → (downs : List Bool) (xs ys zs : List X) → by_items cmp downs xs ys ≡ Equal → by_items cmp downs xs zs ≡ by_items cmp downs ys zs
items_congr o downs [] [] zs e = refl
items_congr o downs [] (y ∷ ys) zs e = cc
items_congr o downs (x ∷ xs) [] zs e = cc
items_congr o downs (x ∷ xs) (y ∷ ys) [] e = refl
items_congr {X} {cmp} o downs (x ∷ xs) (y ∷ ys) (z ∷ zs) e =
    let h = equal_parts (turned (first_flag downs) (cmp x y)) (by_items cmp (rest_flags downs) xs ys) e in
    ap₂ ordering_then ((turned_total o (first_flag downs)).congr x y z h.0) (items_congr o (rest_flags downs) xs ys zs h.1)

items_trans : {X : Type 0} {cmp : X → X → Ordering} → IsTotalOrder cmp → (downs : List Bool) (xs ys zs : List X) → by_items cmp downs xs ys ≡ Less → by_items cmp downs ys zs ≡ Less → by_items cmp downs xs zs ≡ Less
items_trans o downs [] [] zs a b = cc
items_trans o downs [] (y ∷ ys) [] a b = cc
items_trans o downs [] (y ∷ ys) (z ∷ zs) a b = refl
items_trans o downs (x ∷ xs) [] zs a b = cc
items_trans o downs (x ∷ xs) (y ∷ ys) [] a b = cc
items_trans {X} {cmp} o downs (x ∷ xs) (y ∷ ys) (z ∷ zs) a b =
    go (less_cases (by x y) (by_items cmp (rest_flags downs) xs ys) a) (less_cases (by y z) (by_items cmp (rest_flags downs) ys zs) b) (items_trans o (rest_flags downs) xs ys zs)
  where
    by : X → X → Ordering
    by v w = turned (first_flag downs) (cmp v w)

    p : IsTotalOrder (λ v w. turned (first_flag downs) (cmp v w))
    p = turned_total o (first_flag downs)

    Goal : Type 0
    Goal = ordering_then (turned (first_flag downs) (cmp x z)) (by_items cmp (rest_flags downs) xs zs) ≡ Less

    go : (turned (first_flag downs) (cmp x y) ≡ Less) ⊎ ((turned (first_flag downs) (cmp x y) ≡ Equal) × (by_items cmp (rest_flags downs) xs ys ≡ Less)) →
        (turned (first_flag downs) (cmp y z) ≡ Less) ⊎ ((turned (first_flag downs) (cmp y z) ≡ Equal) × (by_items cmp (rest_flags downs) ys zs ≡ Less)) →
        (by_items cmp (rest_flags downs) xs ys ≡ Less → by_items cmp (rest_flags downs) ys zs ≡ Less → by_items cmp (rest_flags downs) xs zs ≡ Less) →
        ordering_then (turned (first_flag downs) (cmp x z)) (by_items cmp (rest_flags downs) xs zs) ≡ Less
    go (inl h) (inl k) rest = less_first _ _ (p.trans x y z h k)
    go (inl h) (inr k) rest = less_first _ _ (sym (alike_right p y z x k.0) ∙ h)
    go (inr h) (inl k) rest = less_first _ _ (p.congr x y z h.0 ∙ k)
    go (inr h) (inr k) rest = rw (p.congr x y z h.0 ∙ k.0) (rest h.1 k.1)

pub items_total : {X : Type 0} (cmp : X → X → Ordering) → IsTotalOrder cmp → (downs : List Bool) → IsTotalOrder (by_items cmp downs)
items_total cmp o downs = record { antisymm = items_antisymm o downs; trans = items_trans o downs; congr = items_congr o downs }

-- lists that tie are equal where items that tie are
pub items_ties : {X : Type 0} (cmp : X → X → Ordering) → CmpEqualImpliesEq cmp → (downs : List Bool) → CmpEqualImpliesEq (by_items cmp downs)
items_ties cmp t downs [] [] e = refl
items_ties cmp t downs [] (y ∷ ys) e = cc
items_ties cmp t downs (x ∷ xs) [] e = cc
items_ties {X} cmp t downs (x ∷ xs) (y ∷ ys) e =
    let h = equal_parts (turned (first_flag downs) (cmp x y)) (by_items cmp (rest_flags downs) xs ys) e in
    ap₂ (λ (z : X) (zs : List X). z ∷ zs) (turned_ties t (first_flag downs) x y h.0) (items_ties cmp t (rest_flags downs) xs ys h.1)

-- ---- lists of which the items have a test of equality

pub same_items-is : {X : Type 0} (same : X → X → Bool) → ((x y : X) → same x y ≡ true → x ≡ y) → (xs ys : List X) → same_items same xs ys ≡ true → xs ≡ ys
same_items-is same t [] [] e = refl
same_items-is same t [] (y ∷ ys) e = cc
same_items-is same t (x ∷ xs) [] e = cc
same_items-is {X} same t (x ∷ xs) (y ∷ ys) e =
    let h = and_parts (same x y) (same_items same xs ys) e in
    ap₂ (λ (z : X) (zs : List X). z ∷ zs) (t x y h.0) (same_items-is same t xs ys h.1)

pub same_items-self : {X : Type 0} (same : X → X → Bool) → ((x : X) → same x x ≡ true) → (xs : List X) → same_items same xs xs ≡ true
same_items-self same s [] = refl
same_items-self same s (x ∷ xs) = rw (s x) (same_items-self same s xs)
