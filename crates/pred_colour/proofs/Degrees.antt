-- How many neighbours the predicate at a place has.
use Rattle.std.proofs.Common.{◌≡◌, ◌<◌, ◌-◌, ℕ, suc, nat_eq, not, cond, ◌||◌, Bool, true, false, List, [], ◌∷◌, map, length, refl, sym, ap, ◌∙◌, arith, subst}
use Rattle.std.specs.List.{filter}
use Rattle.std.specs.List.Sorted.{IsStrictlySortedBy}
use Rattle.std.specs.Ordering.{nat_cmp}
use Rattle.std.proofs.lemmas.Bool.{or_parts, or_left, or_right}
use Rattle.pred_colour_meaning.specs.Interference.{has}
use Rattle.pred_colour_meaning.proofs.Steps.{same_number}
use Rattle.pred_colour.specs.GraphRows.{pred_at, others, AreBelow}
use Rattle.pred_colour.proofs.Found.{same_place}
use Rattle.pred_colour.proofs.Members.{at_self, absent}
use Rattle.pred_colour.proofs.Neighbourhood.{others_at}

turned : (i j : ℕ) → nat_eq i j ≡ nat_eq j i
turned i j = grind arith

-- what isn't there leaves the list whole
all_others : (xs : List ℕ) (i : ℕ) → has i xs ≡ false → filter (λ j. not (nat_eq j i)) xs ≡ xs
all_others [] i h = refl
all_others (x ∷ xs) i h =
    let e = or_parts (nat_eq i x) (has i xs) h in
    rw (turned x i, e.0) (ap (λ (ys : List ℕ). x ∷ ys) (all_others xs i e.1))

-- among rising numbers each stands once
but_one : (xs : List ℕ) (i : ℕ) → IsStrictlySortedBy nat_cmp xs → has i xs ≡ true → suc (length (filter (λ j. not (nat_eq j i)) xs)) ≡ length xs
unfolding IsStrictlySortedBy
but_one [] i s h = cc
but_one (x ∷ xs) i s h = by (but_one xs i s.1) (nat_eq i x) refl h
  where
    by : (has i xs ≡ true → suc (length (filter (λ j. not (nat_eq j i)) xs)) ≡ length xs) → (b : Bool) → nat_eq i x ≡ b → (b || has i xs) ≡ true
        → suc (length (filter (λ j. not (nat_eq j i)) (x ∷ xs))) ≡ length (x ∷ xs)
    by ih true e k =
        let n : has i xs ≡ false = subst (λ (z : ℕ). has z xs ≡ false) (sym (same_number i x e)) (absent x xs s.0) in
        rw (turned x i, e) (ap (λ (ys : List ℕ). suc (length ys)) (all_others xs i n))
    by ih false e k = rw (turned x i, e) (ap suc (ih k))

-- a row without its own place
pub length_others : (xs : List ℕ) (i : ℕ) → has i xs ≡ false → length xs ≡ length (filter (λ j. not (nat_eq j i)) xs)
length_others xs i h = ap length (sym (all_others xs i h))

pub length_but_one : (xs : List ℕ) (i : ℕ) → IsStrictlySortedBy nat_cmp xs → has i xs ≡ true → length xs - 1 ≡ length (filter (λ j. not (nat_eq j i)) xs)
length_but_one xs i s h = let e = but_one xs i s h in omega arith

-- places and the predicates at them are as many
as_many : (preds places : List ℕ) (i : ℕ) → IsStrictlySortedBy nat_cmp preds → i < length preds → AreBelow (length preds) places
    → length (filter (λ q. not (nat_eq q (pred_at preds i))) (map (pred_at preds) places)) ≡ length (filter (λ j. not (nat_eq j i)) places)
as_many preds [] i s l b = refl
as_many preds (j ∷ js) i s l b = rw (same_place preds j i s (b j (or_left (nat_eq j j) (has j js) (at_self j))) l) (by (as_many preds js i s l (λ k h. b k (or_right (nat_eq k j) (has k js) h))) (nat_eq j i))
  where
    others_there : List ℕ
    others_there = filter (λ q. not (nat_eq q (pred_at preds i))) (map (pred_at preds) js)

    other_places : List ℕ
    other_places = filter (λ k. not (nat_eq k i)) js

    by : length others_there ≡ length other_places → (a : Bool) → length (cond (not a) (pred_at preds j ∷ others_there) others_there) ≡ length (cond (not a) (j ∷ other_places) other_places)
    by ih true = ih
    by ih false = ap suc ih

-- the degree of the predicate at a place is the number of other places in its row
pub degree_at : (preds row : List ℕ) (i : ℕ) → IsStrictlySortedBy nat_cmp preds → IsStrictlySortedBy nat_cmp row → i < length preds → AreBelow (length preds) row
    → length (filter (λ j. not (nat_eq j i)) row) ≡ length (others preds row (pred_at preds i))
degree_at preds row i s r l b = sym (as_many preds row i s l b) ∙ ap length (others_at preds row (pred_at preds i) s r b)
