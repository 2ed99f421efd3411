use Rattle.std.proofs.Common.{◌≡◌, ◌||◌, ℕ}
use Rattle.std.specs.List.{list_any, AllByRecursion}
use Rattle.std.specs.List.Sorted.{IsStrictlySortedBy}
use Rattle.std.specs.Map.{values_of}
use Rattle.std.specs.Ordering.{nat_cmp}
use Rattle.layout_columns.specs.Entities.{has_both}
use Rattle.layout_columns.proofs.sets.rising_sets.Given as goal

abbrev pub invariant-loop-entity : goal.invariant-loop-entity
invariant-loop-entity l = record {
  joined : (p q : ℕ) → (list_any (has_both p q) l.sets || list_any (has_both p q) (values_of l._entity-iterator)) ≡ list_any (has_both p q) (values_of l.entities.entries);
  rising : AllByRecursion (IsStrictlySortedBy nat_cmp) l.sets;
}
