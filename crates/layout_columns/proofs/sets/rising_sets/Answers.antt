use Rattle.std.proofs.Common.{◌∙◌, ◌||◌, ℕ, nat_eq, List, sym, ap, subst}
use Rattle.std.specs.Cmp.Lexicographic.{pointwise}
use Rattle.std.specs.List.{list_any, AllByRecursion}
use Rattle.std.specs.List.Sorted.{IsStrictlySortedBy}
use Rattle.std.specs.Map.{values_of}
use Rattle.std.specs.Ordering.{nat_cmp}
use Rattle.layout_columns.specs.Entities.{has_both}
use Rattle.layout_columns.proofs.Distinct.{set-more, all-insert}
use Rattle.layout_columns.proofs.sets.rising_sets.Goals as goal

pub loop-entity-preserved : goal.loop-entity-preserved
loop-entity-preserved c = record {
  joined = λ p q.
      ap (λ (sets : List (List ℕ)). list_any (has_both p q) sets || list_any (has_both p q) (values_of c.next.new.self)) c.in_ok-note.ensures
      ∙ set-more p q c.loop-entity.sets c.in_ok-set.set.items c.in-Some.preds.now (list_any (has_both p q) (values_of c.next.new.self)) (list_any (has_both p q) (values_of c.args.entities.now.entries))
      c.in_ok-set.ensures.permutation
      (ap (λ (left : List (ℕ × List ℕ)). list_any (has_both p q) c.loop-entity.sets || list_any (has_both p q) (values_of left)) (sym c.in-Some.ensures.steps)
      ∙ c.loop-entity.invariant.joined p q);
  rising = subst (AllByRecursion (IsStrictlySortedBy nat_cmp)) (sym c.in_ok-note.ensures)
      (all-insert (IsStrictlySortedBy nat_cmp) (pointwise nat_eq) c.loop-entity.sets c.in_ok-set.set.items c.loop-entity.invariant.rising c.in_ok-set.ensures.rising);
}
