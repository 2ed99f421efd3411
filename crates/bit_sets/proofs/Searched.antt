-- Where a binary search among rising blocks ends.
use Rattle.std.proofs.Common.{◌≡◌, ◌<◌, ◌≤◌, ℕ, List, length, get_or, Result, Ok, Err, sym, ap, arith}
use Rattle.std.specs.List.Sorted.{IsStrictlySortedBy, IsSearchInRange, IsBinarySearchResult, IsNonDecreasingBy}
use Rattle.std.specs.Map.{keys_of}
use Rattle.std.specs.Ordering.{nat_cmp, ordering_index}
use Rattle.std.proofs.Math.ListN.{get_or-map}
use Rattle.std.proofs.lemmas.Bool.Decides.{nat_tests}
use Rattle.std.proofs.lemmas.Cmp.{ranked}
use Rattle.std.proofs.lemmas.List.Sorted.{IsNonDecreasingBy-from_default}
use Rattle.std.proofs.lemmas.Map.Entries.{length-keys_of}
use Rattle.std.proofs.lemmas.Map.Keys.{below_from_sorted}
use Rattle.bit_sets.specs.Places.{IsPlaceOf}

module _ (es : List (ℕ × ℕ)) (rising : IsStrictlySortedBy nat_cmp (keys_of es)) (block : ℕ) where
  abbrev key_at : ℕ → ℕ
  key_at i = (get_or es i (0, 0)).0

  pub rises : (i j : ℕ) → i < j → j < length es → key_at i < key_at j
  rises i j l m =
      let key = λ (e : ℕ × ℕ). e.0 in
      rw (← get_or-map key es i (0, 0), ← get_or-map key es j (0, 0)) (below_from_sorted (keys_of es) i j 0 rising l (omega (arith, length-keys_of es)))

  comparisons_rise : IsNonDecreasingBy (λ e. ordering_index (nat_cmp e.0 block)) es
  comparisons_rise = IsNonDecreasingBy-from_default (λ e. ordering_index (nat_cmp e.0 block)) es (0, 0) (λ i j le within.
      let keys_rise : key_at i ≤ key_at j = grind (arith, rises i j, λ (same : i ≡ j). ap key_at same) in
      grind (arith, nat_tests))

  pub searched : (r : Result ℕ ℕ) → IsSearchInRange r (length es) → IsBinarySearchResult (λ e. nat_cmp e.0 block) es r → IsPlaceOf block es r
  searched (Ok place) within equal = record { within = within; here = λ d. ranked _ block _ (sym (equal d)) }
  searched (Err place) within parted = record {
    within = within;
    lower = λ k d l. ranked _ block _ (sym ((parted comparisons_rise).0 k d (omega arith) l));
    higher = λ k d p l. ranked _ block _ (sym ((parted comparisons_rise).1 k d p l));
  }
