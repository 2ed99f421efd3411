-- Lists of predicates, each kept once, and rising lists.
use Rattle.std.proofs.Common.{◌≡◌, ◌&&◌, ◌||◌, ◌⊎◌, ◌+◌, ℕ, nat_eq, Bool, true, false, if◌then◌else◌, List, [], ◌∷◌, ◌++◌, map, get_or, Less, refl, sym, ap, ap₂, ◌∙◌, inl, inr, arith}
use Rattle.std.proofs.lemmas.Bool.{cases_Bool}
use Rattle.std.specs.List.{list_any, AllByRecursion, IsDistinct}
use Rattle.std.specs.List.Sorted.{IsSorted, IsStrictlySortedBy}
use Rattle.std.specs.Ordering.{nat_cmp, is_lt}
use Rattle.std.specs.Prelude.{IsPermutation, vec_items}
use Rattle.std.specs.Global.{Vec}
use Rattle.std.proofs.lemmas.List.{map_push}
use Rattle.std.proofs.lemmas.Cmp.{nat_cmp_total}
use Rattle.std.proofs.lemmas.List.Sorted.{list_any-IsPermutation}
use Rattle.std.proofs.lemmas.Map.Keys.{apart_from_distinct, sorted_from_all_adjacent, IsDistinct-IsPermutation}
use Rattle.std.specs.Cmp.Lexicographic.{pointwise}
use Rattle.indexmap.specs.IndexSet.{insert_key}
use Rattle.pred_colour_meaning.proofs.Steps.{same_number}
use Rattle.pred_colour.proofs.Joins.{any-map}
use Rattle.layout_meaning.specs.Side.{Item}
use Rattle.shredder.specs.declared.bulk.Placed.{Placed}
use Rattle.shredder.specs.Items.{item_of}
use Rattle.layout_columns.specs.Entities.{has_both}
use Rattle.layout_columns.proofs.ByEntity.{and-parts}

-- a test that equal items pass alike
module _ {X : Type 0} (same : X → X → Bool) (t : X → Bool) (alike : (x y : X) → same x y ≡ true → t x ≡ t y) where
  passed-seen : (x : X) (seen : List X) → list_any (same x) seen ≡ true → (t x || list_any t seen) ≡ list_any t seen
  passed-seen x [] h = cc
  passed-seen x (y ∷ seen) h = by (same x y) refl h (passed-seen x seen)
    where
      twice : (a b : Bool) → (a || (a || b)) ≡ (a || b)
      twice true b = refl
      twice false b = refl

      turned : (a b c : Bool) → (a || c) ≡ c → (a || (b || c)) ≡ (b || c)
      turned true true c h = refl
      turned true false c h = h
      turned false b c h = refl

      by : (b : Bool) → same x y ≡ b → (b || list_any (same x) seen) ≡ true → (list_any (same x) seen ≡ true → (t x || list_any t seen) ≡ list_any t seen) → (t x || (t y || list_any t seen)) ≡ (t y || list_any t seen)
      by true e h ih = ap (λ (b : Bool). b || (t y || list_any t seen)) (alike x y e) ∙ twice (t y) (list_any t seen)
      by false e h ih = turned (t x) (t y) (list_any t seen) (ih h)

  any-last : (xs : List X) (x : X) → list_any t (xs ++ x ∷ []) ≡ (t x || list_any t xs)
  any-last [] x = refl
  any-last (y ∷ xs) x = ap (λ (b : Bool). t y || b) (any-last xs x) ∙ turned (t y) (t x) (list_any t xs)
    where
      turned : (a b c : Bool) → (a || (b || c)) ≡ (b || (a || c))
      turned true true c = refl
      turned true false c = refl
      turned false b c = refl

  -- some item passes it after an insertion where the new one does or an old one
  any-insert : (xs : List X) (x : X) → list_any t (insert_key same xs x) ≡ (t x || list_any t xs)
  any-insert xs x = by (cases_Bool (list_any (same x) xs))
    where
      by : (list_any (same x) xs ≡ true) ⊎ (list_any (same x) xs ≡ false) → list_any t (insert_key same xs x) ≡ (t x || list_any t xs)
      by (inl e) = rw e (sym (passed-seen x xs e))
      by (inr e) = rw e (any-last xs x)

same_list : (xs ys : List ℕ) → pointwise nat_eq xs ys ≡ true → xs ≡ ys
same_list [] [] h = refl
same_list [] (y ∷ ys) h = cc
same_list (x ∷ xs) [] h = cc
same_list (x ∷ xs) (y ∷ ys) h =
    let both = and-parts (nat_eq x y) (pointwise nat_eq xs ys) h in
    ap₂ (λ (z : ℕ) (zs : List ℕ). z ∷ zs) (same_number x y both.0) (same_list xs ys both.1)

-- numbers that differ rise once they are sorted
same_turned : (a b : ℕ) → nat_eq a b ≡ nat_eq b a
same_turned a b = grind arith

next_above : (a b : ℕ) → is_lt (nat_cmp b a) ≡ false → nat_eq a b ≡ false → nat_cmp a b ≡ Less
next_above a b up apart = grind arith

rising_from_distinct : (xs : List ℕ) → IsSorted nat_cmp xs → IsDistinct nat_eq xs → IsStrictlySortedBy nat_cmp xs
rising_from_distinct xs sorted distinct =
    sorted_from_all_adjacent nat_cmp_total xs 0
    (λ k inside. next_above (get_or xs k 0) (get_or xs (k + 1) 0) (sorted k 0 (omega arith) inside) (apart_from_distinct nat_eq xs k (k + 1) 0 distinct (omega arith) inside))

pub rising_sorted : (xs ys : List ℕ) → IsDistinct nat_eq xs → IsPermutation xs ys → IsSorted nat_cmp ys → IsStrictlySortedBy nat_cmp ys
rising_sorted xs ys distinct same sorted = rising_from_distinct ys sorted (IsDistinct-IsPermutation nat_eq same_turned xs ys same distinct)

-- a list in another order
both-permuted : (p q : ℕ) (xs ys : List ℕ) → IsPermutation xs ys → has_both p q xs ≡ has_both p q ys
both-permuted p q xs ys same = ap₂ (λ (a b : Bool). a && b) (list_any-IsPermutation (nat_eq p) xs ys same) (list_any-IsPermutation (nat_eq q) xs ys same)

-- one more set
pub set-more : (p q : ℕ) (sets : List (List ℕ)) (set preds : List ℕ) (left all : Bool) → IsPermutation preds set
    → (list_any (has_both p q) sets || (has_both p q preds || left)) ≡ all → (list_any (has_both p q) (insert_key (pointwise nat_eq) sets set) || left) ≡ all
set-more p q sets set preds left all same h =
    ap (λ (b : Bool). b || left) (any-insert (pointwise nat_eq) (has_both p q) (λ x y e. ap (has_both p q) (same_list x y e)) sets set)
    ∙ turned (has_both p q set) (list_any (has_both p q) sets) left
    ∙ ap (λ (b : Bool). list_any (has_both p q) sets || (b || left)) (sym (both-permuted p q preds set same))
    ∙ h
  where
    turned : (a b c : Bool) → ((a || b) || c) ≡ (b || (a || c))
    turned true true c = refl
    turned true false c = refl
    turned false b c = refl

-- what holds of the lists and of one more
pub all-insert : {X : Type 0} (P : X → Type 0) (same : X → X → Bool) (xs : List X) (x : X) → AllByRecursion P xs → P x → AllByRecursion P (insert_key same xs x)
all-insert {X} P same xs x all one = by (list_any (same x) xs)
  where
    last : (ys : List X) → AllByRecursion P ys → AllByRecursion P (ys ++ x ∷ [])
    last [] a = (one, tt)
    last (y ∷ ys) a = (a.0, last ys a.1)

    by : (b : Bool) → AllByRecursion P (if b then xs else xs ++ x ∷ [])
    by true = all
    by false = last xs all

-- vectors that are kept by their items
pub items-insert : (xs : List (Vec ℕ)) (x : Vec ℕ) → map vec_items (insert_key (λ a b. pointwise nat_eq a.items b.items) xs x) ≡ insert_key (pointwise nat_eq) (map vec_items xs) x.items
items-insert xs x =
    by (list_any (λ (y : Vec ℕ). pointwise nat_eq x.items y.items) xs)
    ∙ ap (λ (b : Bool). if b then map vec_items xs else map vec_items xs ++ x.items ∷ []) (sym (any-map (pointwise nat_eq x.items) vec_items xs))
  where
    by : (b : Bool) → map vec_items (if b then xs else xs ++ x ∷ []) ≡ (if b then map vec_items xs else map vec_items xs ++ x.items ∷ [])
    by true = refl
    by false = map_push vec_items xs x

pub items-distinct : (xs : List (Vec ℕ)) → IsDistinct (λ a b. pointwise nat_eq a.items b.items) xs → IsDistinct (pointwise nat_eq) (map vec_items xs)
unfolding IsDistinct
items-distinct [] h = tt
items-distinct (x ∷ xs) h = (apart xs h.0, items-distinct xs h.1)
  where
    apart : (ys : List (Vec ℕ)) → AllByRecursion (λ (y : Vec ℕ). pointwise nat_eq x.items y.items ≡ false) ys → AllByRecursion (λ (y : List ℕ). pointwise nat_eq x.items y ≡ false) (map vec_items ys)
    apart [] a = tt
    apart (y ∷ ys) a = (a.0, apart ys a.1)

-- a number that is among none of others is apart from each
pub first-apart : (x : ℕ) (ks : List ℕ) → list_any (nat_eq x) ks ≡ false → AllByRecursion (λ y. nat_eq x y ≡ false) ks
first-apart x [] h = tt
first-apart x (k ∷ ks) h = by (first-apart x ks) (nat_eq x k) refl h
  where
    by : (list_any (nat_eq x) ks ≡ false → AllByRecursion (λ y. nat_eq x y ≡ false) ks) → (b : Bool) → nat_eq x k ≡ b → (b || list_any (nat_eq x) ks) ≡ false → (nat_eq x k ≡ false) × AllByRecursion (λ y. nat_eq x y ≡ false) ks
    by ih true e h = cc
    by ih false e h = (e, ih h)

-- a test of items that change places
pub any-moved : (t : Item → Bool) (xs ys : List Placed) → IsPermutation xs ys → list_any t (map item_of ys) ≡ list_any t (map item_of xs)
any-moved t xs ys same = any-map t item_of ys ∙ sym (list_any-IsPermutation (λ (p : Placed). t (item_of p)) xs ys same) ∙ sym (any-map t item_of xs)
