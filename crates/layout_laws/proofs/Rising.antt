-- Numbers by rising value, each once.
use Rattle.std.proofs.Common.{◌≡◌, ℕ, nat_eq, ◌||◌, Bool, true, false, List, [], ◌∷◌, Ordering, Less, Equal, Greater, refl, ap, ◌∙◌, arith}
use Rattle.std.specs.List.{list_any, AllByRecursion, IsDistinct}
use Rattle.std.specs.List.Sorted.{IsStrictlySortedBy}
use Rattle.std.specs.Ordering.{nat_cmp}
use Rattle.std.proofs.lemmas.Cmp.{nat_cmp_total}
use Rattle.bags.specs.BagLaws.{each-weaker}
use Rattle.pred_colour_meaning.specs.Interference.{has}

abbrev put_by : Ordering → ℕ → ℕ → List ℕ → List ℕ → List ℕ
put_by Less x y ys more = x ∷ y ∷ ys
put_by Equal x y ys more = y ∷ ys
put_by Greater x y ys more = y ∷ more

-- numbers with one more, unless it is there
abbrev put : ℕ → List ℕ → List ℕ
put x [] = x ∷ []
put x (y ∷ ys) = put_by (nat_cmp x y) x y ys (put x ys)

abbrev put_all : List ℕ → List ℕ → List ℕ
put_all [] ys = ys
put_all (x ∷ xs) ys = put x (put_all xs ys)

-- the numbers of lists
abbrev pub numbers_of : List (List ℕ) → List ℕ
numbers_of [] = []
numbers_of (xs ∷ lists) = put_all xs (numbers_of lists)

-- ---- they rise

each-put : (P : ℕ → Type 0) (x : ℕ) (ys : List ℕ) → P x → AllByRecursion P ys → AllByRecursion P (put x ys)
each-put P x [] p a = (p, tt)
each-put P x (y ∷ ys) p a = by (nat_cmp x y) (each-put P x ys p a.1)
  where
    by : (o : Ordering) → AllByRecursion P (put x ys) → AllByRecursion P (put_by o x y ys (put x ys))
    by Less ih = (p, a)
    by Equal ih = a
    by Greater ih = (a.0, ih)

rising-put : (x : ℕ) (ys : List ℕ) → IsStrictlySortedBy nat_cmp ys → IsStrictlySortedBy nat_cmp (put x ys)
unfolding IsStrictlySortedBy
rising-put x [] s = (tt, tt)
rising-put x (y ∷ ys) s = by (nat_cmp x y) refl (rising-put x ys s.1)
  where
    behind : nat_cmp x y ≡ Greater → nat_cmp y x ≡ Less
    behind e = grind arith

    by : (o : Ordering) → nat_cmp x y ≡ o → IsStrictlySortedBy nat_cmp (put x ys) → IsStrictlySortedBy nat_cmp (put_by o x y ys (put x ys))
    by Less e ih = ((e, each-weaker (λ z. nat_cmp y z ≡ Less) (λ z. nat_cmp x z ≡ Less) (λ z l. nat_cmp_total.trans x y z e l) ys s.0), s)
    by Equal e ih = s
    by Greater e ih = (each-put (λ z. nat_cmp y z ≡ Less) x ys (behind e) s.0, ih)

rising-put_all : (xs ys : List ℕ) → IsStrictlySortedBy nat_cmp ys → IsStrictlySortedBy nat_cmp (put_all xs ys)
rising-put_all [] ys s = s
rising-put_all (x ∷ xs) ys s = rising-put x (put_all xs ys) (rising-put_all xs ys s)

pub rising-numbers : (lists : List (List ℕ)) → IsStrictlySortedBy nat_cmp (numbers_of lists)
unfolding IsStrictlySortedBy
rising-numbers [] = tt
rising-numbers (xs ∷ lists) = rising-put_all xs (numbers_of lists) (rising-numbers lists)

pub distinct-rising : (xs : List ℕ) → IsStrictlySortedBy nat_cmp xs → IsDistinct nat_eq xs
unfolding IsStrictlySortedBy IsDistinct
distinct-rising [] s = tt
distinct-rising (x ∷ xs) s = (each-weaker (λ y. nat_cmp x y ≡ Less) (λ y. nat_eq x y ≡ false) (λ y l. differ x y l) xs s.0, distinct-rising xs s.1)
  where
    differ : (x y : ℕ) → nat_cmp x y ≡ Less → nat_eq x y ≡ false
    differ x y l = grind arith

-- ---- they are those of the lists

or_again : (a b : Bool) → (a || b) ≡ (a || (a || b))
or_again true b = refl
or_again false b = refl

or_turned : (a b c : Bool) → (a || (b || c)) ≡ (b || (a || c))
or_turned true true c = refl
or_turned true false c = refl
or_turned false b c = refl

or_assoc : (a b c : Bool) → (a || (b || c)) ≡ ((a || b) || c)
or_assoc true b c = refl
or_assoc false b c = refl

has-put : (q x : ℕ) (ys : List ℕ) → has q (put x ys) ≡ (nat_eq q x || has q ys)
has-put q x [] = refl
has-put q x (y ∷ ys) = by (nat_cmp x y) refl (has-put q x ys)
  where
    alike : nat_cmp x y ≡ Equal → nat_eq q y ≡ nat_eq q x
    alike e = let k : y ≡ x = grind arith in ap (nat_eq q) k

    by : (o : Ordering) → nat_cmp x y ≡ o → has q (put x ys) ≡ (nat_eq q x || has q ys) → has q (put_by o x y ys (put x ys)) ≡ (nat_eq q x || (nat_eq q y || has q ys))
    by Less e ih = refl
    by Equal e ih = rw (alike e) (or_again (nat_eq q x) (has q ys))
    by Greater e ih = ap (λ (b : Bool). nat_eq q y || b) ih ∙ or_turned (nat_eq q y) (nat_eq q x) (has q ys)

has-put_all : (q : ℕ) (xs ys : List ℕ) → has q (put_all xs ys) ≡ (has q xs || has q ys)
has-put_all q [] ys = refl
has-put_all q (x ∷ xs) ys = has-put q x (put_all xs ys) ∙ ap (λ (b : Bool). nat_eq q x || b) (has-put_all q xs ys) ∙ or_assoc (nat_eq q x) (has q xs) (has q ys)

pub has-numbers : (q : ℕ) (lists : List (List ℕ)) → has q (numbers_of lists) ≡ list_any (has q) lists
has-numbers q [] = refl
has-numbers q (xs ∷ lists) = has-put_all q xs (numbers_of lists) ∙ ap (λ (b : Bool). has q xs || b) (has-numbers q lists)
