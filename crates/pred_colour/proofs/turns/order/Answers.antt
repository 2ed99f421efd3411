use Rattle.std.proofs.Common.{◌∙◌, ap, map}
use Rattle.bags.specs.Sort.{sort}
use Rattle.pred_colour.specs.Turns.{turn_order, pred_of}
use Rattle.pred_colour.proofs.Ordered.{turns_strict, turns_all}
use Rattle.pred_colour.proofs.turns.order.Goals as goal

pub returns-clause-strict : goal.returns-clause-strict
returns-clause-strict c =
    turns_strict c.args.graph.now c.sort_turns.new.turns.items c.in_ok-preds.preds.items c.in_ok-turns.ensures.rising
    (c.in_ok-sort_turns.ensures ∙ ap (sort turn_order) c.in_ok-turns.ensures.turns) (c.in_ok-preds.ensures ∙ ap (map pred_of) c.as_slice.ensures.value)

pub returns-clause-all : goal.returns-clause-all
returns-clause-all c = λ p.
    turns_all c.args.graph.now c.sort_turns.new.turns.items c.in_ok-preds.preds.items p
    (c.in_ok-sort_turns.ensures ∙ ap (sort turn_order) c.in_ok-turns.ensures.turns) (c.in_ok-preds.ensures ∙ ap (map pred_of) c.as_slice.ensures.value)
