-- The order of predicates, and the predicates of a graph in it.
use Rattle.std.proofs.Common.{◌≡◌, ℕ, nat_eq, ◌||◌, Bool, true, false, List, [], ◌∷◌, ◌++◌, Ordering, Less, Equal, Greater, refl, sym, ap, ◌∙◌, arith, subst}
use Rattle.std.specs.List.{list_any, AllByRecursion}
use Rattle.std.specs.List.Sorted.{IsStrictlySortedBy}
use Rattle.std.specs.Ordering.{nat_cmp, ordering_then, ordering_reverse, is_lt, is_le}
use Rattle.std.specs.Cmp.{IsTotalOrder}
use Rattle.std.proofs.lemmas.Cmp.{nat_cmp_total, on_total, back_total, then_total, tied_itself}
use Rattle.bags.specs.Sort.{insert_sorted, sort}
use Rattle.bags.specs.BagLaws.{each-weaker}
use Rattle.bags.specs.SortLaws.{each-sort}
use Rattle.pred_colour_meaning.specs.Interference.{Graph}
use Rattle.pred_colour_meaning.specs.Colouring.{degree, rank}

pub rank_total : (g : Graph) → IsTotalOrder (rank g)
rank_total g = then_total {R = λ p q. nat_cmp (degree g q) (degree g p)} {S = nat_cmp} (back_total (on_total (degree g) nat_cmp_total)) nat_cmp_total

pub not_before_itself : (g : Graph) (p : ℕ) → is_lt (rank g p p) ≡ false
not_before_itself g p = ap is_lt (tied_itself (rank_total g) p)

pub not_behind : (g : Graph) (p q : ℕ) → rank g p q ≡ Less → is_lt (rank g q p) ≡ false
not_behind g p q h = ap is_lt ((rank_total g).antisymm q p ∙ ap ordering_reverse h)

pub nat_tied : (p q : ℕ) → nat_cmp p q ≡ Equal → p ≡ q
nat_tied p q h = grind arith

pub tied : (g : Graph) (p q : ℕ) → rank g p q ≡ Equal → p ≡ q
tied g p q h = by (nat_cmp (degree g q) (degree g p)) h
  where
    by : (o : Ordering) → ordering_then o (nat_cmp p q) ≡ Equal → p ≡ q
    by Less e = cc
    by Equal e = nat_tied p q e
    by Greater e = cc

pub apart : (g : Graph) (p q : ℕ) → rank g p q ≡ Less → nat_eq p q ≡ false
apart g p q h = by (nat_eq p q) refl
  where
    by : (b : Bool) → nat_eq p q ≡ b → b ≡ false
    by false e = refl
    by true e =
        let k : p ≡ q = grind arith in
        let z : is_lt (rank g p q) ≡ false = subst (λ (r : ℕ). is_lt (rank g p r) ≡ false) k (not_before_itself g p) in
        sym (ap is_lt h) ∙ z

-- ---- lists in an order

pub each-append : {X : Type 0} (P : X → Type 0) (xs ys : List X) → AllByRecursion P xs → AllByRecursion P ys → AllByRecursion P (xs ++ ys)
each-append P [] ys a b = b
each-append P (x ∷ xs) ys a b = (a.0, each-append P xs ys a.1 b)

pub strict-push : {X : Type 0} (c : X → X → Ordering) (xs : List X) (y : X) → IsStrictlySortedBy c xs → AllByRecursion (λ x. c x y ≡ Less) xs → IsStrictlySortedBy c (xs ++ y ∷ [])
unfolding IsStrictlySortedBy
strict-push c [] y s a = (tt, tt)
strict-push c (x ∷ xs) y s a = (each-append (λ z. c x z ≡ Less) xs (y ∷ []) s.0 (a.0, tt), strict-push c xs y s.1 a.1)

-- those before one in the middle
pub front_before : {X : Type 0} (c : X → X → Ordering) (xs : List X) (y : X) (ys : List X) → IsStrictlySortedBy c (xs ++ y ∷ ys) → AllByRecursion (λ x. c x y ≡ Less) xs
unfolding IsStrictlySortedBy
front_before c [] y ys s = tt
front_before {X} c (x ∷ xs) y ys s = (first xs s.0, front_before c xs y ys s.1)
  where
    first : (zs : List X) → AllByRecursion (λ z. c x z ≡ Less) (zs ++ y ∷ ys) → c x y ≡ Less
    first [] a = a.0
    first (z ∷ zs) a = first zs a.1

each-insert : {X : Type 0} (cmp : X → X → Ordering) (P : X → Type 0) (x : X) (ys : List X) → P x → AllByRecursion P ys → AllByRecursion P (insert_sorted cmp x ys)
each-insert cmp P x [] p all = (p, tt)
each-insert cmp P x (y ∷ ys) p all = go (is_le (cmp x y)) refl (each-insert cmp P x ys p all.1)
  where
    go : (b : Bool) → is_le (cmp x y) ≡ b → AllByRecursion P (insert_sorted cmp x ys) → AllByRecursion P (insert_sorted cmp x (y ∷ ys))
    go true e h = rw e (p, all)
    go false e h = rw e (all.0, h)

-- an item that ties with none goes in
strict-insert : {X : Type 0} {cmp : X → X → Ordering} → IsTotalOrder cmp → (x : X) (ys : List X) → AllByRecursion (λ y. cmp x y ≡ Equal → ⊥) ys → IsStrictlySortedBy cmp ys → IsStrictlySortedBy cmp (insert_sorted cmp x ys)
unfolding IsStrictlySortedBy
strict-insert o x [] d s = (tt, tt)
strict-insert {X} {cmp} o x (y ∷ ys) d s = go (cmp x y) refl (strict-insert o x ys d.1 s.1)
  where
    go : (r : Ordering) → cmp x y ≡ r → IsStrictlySortedBy cmp (insert_sorted cmp x ys) → IsStrictlySortedBy cmp (insert_sorted cmp x (y ∷ ys))
    go Less e h = rw e ((e, each-weaker (λ z. cmp y z ≡ Less) (λ z. cmp x z ≡ Less) (λ z l. o.trans x y z e l) ys s.0), s)
    go Equal e h = absurd (d.0 e)
    go Greater e h = rw e (each-insert cmp (λ z. cmp y z ≡ Less) x ys (o.antisymm y x ∙ ap ordering_reverse e) s.0, h)

-- no two items tie
abbrev pub AreApart : {X : Type 0} → (X → X → Ordering) → List X → Type 0
AreApart cmp [] = Unit {0}
AreApart cmp (x ∷ xs) = AllByRecursion (λ y. cmp x y ≡ Equal → ⊥) xs × AreApart cmp xs

pub strict-sort : {X : Type 0} {cmp : X → X → Ordering} → IsTotalOrder cmp → (xs : List X) → AreApart cmp xs → IsStrictlySortedBy cmp (sort cmp xs)
unfolding IsStrictlySortedBy
strict-sort o [] d = tt
strict-sort {X} {cmp} o (x ∷ xs) d = strict-insert o x (sort cmp xs) (each-sort cmp (λ y. cmp x y ≡ Equal → ⊥) xs d.0) (strict-sort o xs d.1)

any-insert : {X : Type 0} (cmp : X → X → Ordering) (t : X → Bool) (x : X) (ys : List X) → list_any t (insert_sorted cmp x ys) ≡ (t x || list_any t ys)
any-insert cmp t x [] = refl
any-insert cmp t x (y ∷ ys) = go (is_le (cmp x y)) refl (any-insert cmp t x ys)
  where
    turned : (a b c : Bool) → (a || (b || c)) ≡ (b || (a || c))
    turned true true c = refl
    turned true false c = refl
    turned false b c = refl

    go : (b : Bool) → is_le (cmp x y) ≡ b → list_any t (insert_sorted cmp x ys) ≡ (t x || list_any t ys) → list_any t (insert_sorted cmp x (y ∷ ys)) ≡ (t x || (t y || list_any t ys))
    go true e h = rw e refl
    go false e h = rw e (ap (λ (b : Bool). t y || b) h ∙ turned (t y) (t x) (list_any t ys))

pub any-sort : {X : Type 0} (cmp : X → X → Ordering) (t : X → Bool) (xs : List X) → list_any t (sort cmp xs) ≡ list_any t xs
any-sort cmp t [] = refl
any-sort cmp t (x ∷ xs) = any-insert cmp t x (sort cmp xs) ∙ ap (λ (b : Bool). t x || b) (any-sort cmp t xs)
