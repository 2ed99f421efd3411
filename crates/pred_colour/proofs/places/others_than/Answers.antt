use Rattle.std.proofs.Common.{◌∙◌, ◌-◌, ap, sym, ℕ}
use Rattle.pred_colour.proofs.Degrees.{length_others, length_but_one}
use Rattle.pred_colour.proofs.places.others_than.Goals as goal

pub returns-then-contains-clause-value : goal.returns-then-contains-clause-value
returns-then-contains-clause-value c =
    ap (λ (n : ℕ). n - 1) c.len.ensures.value ∙ length_but_one c.args.places.now c.args.place c.len.ensures.rising (sym c.contains.ensures ∙ c.if-contains.true)

pub returns-else-contains-clause-value : goal.returns-else-contains-clause-value
returns-else-contains-clause-value c = c.len-else-contains.ensures.value ∙ length_others c.args.places.now c.args.place (sym c.contains.ensures ∙ c.if-contains.false)
