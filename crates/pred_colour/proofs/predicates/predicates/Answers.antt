use Rattle.std.proofs.Common.{◌∙◌, ap, nat_eq, sym}
use Rattle.std.proofs.lemmas.Cmp.{nat_cmp_total, nat_eq_equiv}
use Rattle.std.proofs.lemmas.List.Filters.{dedup_is}
use Rattle.std.proofs.lemmas.List.Kept.{IsStrictlySortedBy-dedup}
use Rattle.std.proofs.lemmas.List.Sorted.{list_any-IsPermutation}
use Rattle.pred_colour_meaning.specs.Interference.{has}
use Rattle.pred_colour.specs.Entities.{preds_of}
use Rattle.pred_colour.proofs.Once.{same_ties, any_of_flat, has_dedup}
use Rattle.pred_colour.proofs.predicates.predicates.Goals as goal

pub returns-clause-rising : goal.returns-clause-rising
returns-clause-rising c = rw (dedup_is nat_eq _ _ c.dedup.ensures.filtered) (IsStrictlySortedBy-dedup nat_cmp_total same_ties c.sort_unstable.new.self.items c.sort_unstable.ensures.sorted)

pub returns-clause-all : goal.returns-clause-all
returns-clause-all c = λ p.
    ap (has p) (dedup_is nat_eq _ _ c.dedup.ensures.filtered) ∙ has_dedup nat_eq_equiv p c.sort_unstable.new.self.items
    ∙ sym (list_any-IsPermutation (nat_eq p) _ _ c.sort_unstable.ensures.permutation) ∙ ap (has p) c.in_ok-preds.ensures ∙ any_of_flat (nat_eq p) preds_of c.args.entities.now
