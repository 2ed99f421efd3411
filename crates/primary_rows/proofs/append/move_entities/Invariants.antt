use Rattle.std.proofs.Common.{ℕ}
use Rattle.std.specs.List.Sorted.{IsStrictlySortedBy}
use Rattle.std.specs.Ordering.{nat_cmp}
use Rattle.std.specs.Map.{keys_of}
use Rattle.layout_meaning.specs.Side.{Rows}
use Rattle.layout_bulk_meaning.specs.Appended.{lists_in_rows, given_entity, named_in_rows, IsAbove}
use Rattle.layout_bulk_meaning.proofs.Going.{Going}
use Rattle.primary_rows.proofs.append.move_entities.Given as goal

abbrev pub invariant-loop-entity : goal.invariant-loop-entity
invariant-loop-entity l = record {
  going : Going (λ (en : ℕ × Rows). lists_in_rows en.1) given_entity (λ (en : ℕ × Rows). named_in_rows l.from.lists en.1) l.fn.entities.entries l.entities.entries l.fn.later.entries l.entity-iterator l.fn.to l.to;
  above : IsAbove l.entities.entries l.entity-iterator;
  rising : IsStrictlySortedBy nat_cmp (keys_of l.entity-iterator);
}
