use Rattle.std.proofs.Common.{◌∙◌, nat_eq, sym, ap, subst}
use Rattle.std.specs.Cmp.Lexicographic.{pointwise}
use Rattle.std.specs.List.{list_any, AllByRecursion, IsDistinct}
use Rattle.std.specs.List.Sorted.{IsStrictlySortedBy}
use Rattle.std.specs.Ordering.{nat_cmp}
use Rattle.std.proofs.lemmas.Result.{IfOk-weaker}
use Rattle.layout_columns.specs.Entities.{has_both}
use Rattle.layout_columns.proofs.sets.distinct_sets.Goals as goal

pub returns : goal.returns
returns c = record {
  joined = IfOk-weaker c.as_entities.result _ _ (λ list e. λ p q. ap (list_any (has_both p q)) (e ∙ c.in_ok-distinct.ensures.lists) ∙ c.in_ok-sets.ensures.joined p q) c.as_entities.ensures;
  rising = IfOk-weaker c.as_entities.result _ _ (λ list e. subst (AllByRecursion (IsStrictlySortedBy nat_cmp)) (sym (e ∙ c.in_ok-distinct.ensures.lists)) c.in_ok-sets.ensures.rising) c.as_entities.ensures;
  once = IfOk-weaker c.as_entities.result _ _ (λ list e. subst (IsDistinct (pointwise nat_eq)) (sym (e ∙ c.in_ok-distinct.ensures.lists)) c.in_ok-distinct.ensures.once) c.as_entities.ensures;
}
