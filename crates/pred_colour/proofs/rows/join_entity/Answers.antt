use Rattle.std.proofs.Common.{◌∙◌, ◌||◌, ap, sym, Bool}
use Rattle.std.proofs.lemmas.Result.{on_ok_weaker}
use Rattle.pred_colour.specs.GraphRows.{pred_at, row_at, is_other}
use Rattle.pred_colour.proofs.Joins.{few_joined, row_joined}
use Rattle.pred_colour.proofs.Members.{or_false}
use Rattle.pred_colour.proofs.rows.join_entity.Goals as goal

pub returns-then-preds-lt2-clause-joined : goal.returns-then-preds-lt2-clause-joined
returns-then-preds-lt2-clause-joined c = λ i q l.
    let p = pred_at c.args.all.now i in
    let old = is_other c.args.all.now (row_at c.args.rows.now i) p q in
    sym (ap (λ (b : Bool). old || b) (few_joined p q c.args.preds.now c.if-preds-lt2.true) ∙ or_false old)

pub returns-clause-joined : goal.returns-clause-joined
returns-clause-joined c =
    on_ok_weaker c.join_rows.result (λ h i q l. row_joined c.args.all.now (row_at c.args.rows.now i) (row_at c.join_rows.new.rows i) c.in_ok-set.set c.as_slice.result.now c.args.preds.now i q c.requires.rows.rising l
    c.in_ok-set.ensures.below (c.as_slice.ensures.value ∙ c.in_ok-places.ensures.value) c.in_ok-set.ensures.stand (h i)) c.join_rows.ensures.joined
