-- The place of a predicate among rising ones.
use Rattle.std.proofs.Common.{◌≡◌, ◌<◌, ◌≤◌, ◌^◌, ℕ, subst, nat_eq, false, List, length, get_or, sym, arith, inl, inr, ◌⊎◌, Err}
use Rattle.std.specs.List.{All}
use Rattle.std.specs.List.Sorted.{IsStrictlySortedBy, IsBinarySearchResult}
use Rattle.std.specs.Ordering.{nat_cmp}
use Rattle.std.proofs.lemmas.Bool.{cases_lt, cases_order}
use Rattle.std.proofs.lemmas.List.{get_or_default}
use Rattle.std.proofs.lemmas.List.Folds.{list_any_none, list_any_at}
use Rattle.std.proofs.lemmas.List.Sorted.{searched}
use Rattle.std.proofs.lemmas.Map.Keys.{non_decreasing_from_sorted, below_from_sorted}
use Rattle.std.proofs.lemmas.Map.Views.{length-le_from_below}
use Rattle.pred_colour_meaning.specs.Interference.{has}
use Rattle.pred_colour.specs.GraphRows.{pred_at, stands_in, AreBelow}
use Rattle.pred_colour.proofs.Members.{same_on}

-- what isn't found isn't there
pub not_there : (xs : List ℕ) (x i : ℕ) → IsStrictlySortedBy nat_cmp xs → IsBinarySearchResult (λ y. nat_cmp y x) xs (Err i) → has x xs ≡ false
not_there xs x i s h = list_any_none (nat_eq x) xs apart
  where
    found : (i ≤ length xs) × ((k : ℕ) → k < i → get_or xs k 0 < x) × ((k : ℕ) → i ≤ k → k < length xs → x < get_or xs k 0)
    found = searched xs x (Err i) h (λ j k l m. non_decreasing_from_sorted xs s j k 0 l m)

    apart : All (λ y. nat_eq x y ≡ false) xs
    apart k d l = by (cases_lt k i)
      where
        at : get_or xs k d ≡ get_or xs k 0
        at = get_or_default xs k d 0 l

        by : (k < i) ⊎ (i ≤ k) → nat_eq x (get_or xs k d) ≡ false
        by (inl b) = let m : get_or xs k 0 < x = found.1 k b in rw at (grind arith)
        by (inr b) = let m : x < get_or xs k 0 = found.2 k b l in rw at (grind arith)

-- rising numbers are the same only at the same place
pub same_place : (xs : List ℕ) (i j : ℕ) → IsStrictlySortedBy nat_cmp xs → i < length xs → j < length xs → nat_eq (pred_at xs i) (pred_at xs j) ≡ nat_eq i j
same_place xs i j s l m = by (cases_order i j)
  where
    by : (i ≡ j) ⊎ ((i < j) ⊎ (j < i)) → nat_eq (pred_at xs i) (pred_at xs j) ≡ nat_eq i j
    by (inl e) = rw e (grind arith)
    by (inr (inl b)) = let n : pred_at xs i < pred_at xs j = below_from_sorted xs i j 0 s b m in grind arith
    by (inr (inr b)) = let n : pred_at xs j < pred_at xs i = below_from_sorted xs j i 0 s b l in grind arith

-- a place is among others just if its number stands there
pub has_place : (xs places : List ℕ) (i : ℕ) → IsStrictlySortedBy nat_cmp xs → i < length xs → AreBelow (length xs) places → has i places ≡ stands_in xs places (pred_at xs i)
has_place xs places i s l b = same_on (nat_eq i) (λ j. nat_eq (pred_at xs i) (pred_at xs j)) places (λ j h. sym (same_place xs i j s l (b j h)))

pub below_at : (n : ℕ) (places : List ℕ) (k : ℕ) → AreBelow n places → k < length places → get_or places k 0 < n
below_at n places k b l = b (get_or places k 0) (list_any_at (nat_eq (get_or places k 0)) places k 0 l (grind arith))

-- a place of rising numbers of 32 bits is such a number too
pub place_fits : (xs : List ℕ) (i : ℕ) → IsStrictlySortedBy nat_cmp xs → ((k : ℕ) → get_or xs k 0 < 2 ^ 32) → i < length xs → i < 2 ^ 32
place_fits xs i s fit l =
    let few : length xs ≤ 2 ^ 32 = length-le_from_below (2 ^ 32) xs s (λ k d m. subst (λ (x : ℕ). x < 2 ^ 32) (get_or_default xs k 0 d m) (fit k)) in
    omega arith
