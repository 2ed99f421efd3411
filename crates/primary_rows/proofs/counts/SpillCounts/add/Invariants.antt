use Rattle.std.proofs.Common.{◌≡◌, ◌+◌, ℕ}
use Rattle.std.specs.List.Sorted.{IsStrictlySortedBy}
use Rattle.std.specs.Ordering.{nat_cmp}
use Rattle.std.specs.Map.{keys_of}
use Rattle.primary_rows.specs.Counted.{count_in, ArePositive}
use Rattle.primary_rows.proofs.counts.SpillCounts.add.Given as goal

abbrev pub invariant-loop-pred : goal.invariant-loop-pred
invariant-loop-pred l = record {
  sum : (q : ℕ) → count_in l.self q + count_in l.pred-iterator q ≡ count_in l.fn.self q + count_in l.later q;
  rising : IsStrictlySortedBy nat_cmp (keys_of l.pred-iterator);
  positive : ArePositive l.pred-iterator;
}
