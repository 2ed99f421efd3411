use Rattle.std.proofs.Common.{rules}
use Rattle.pred_colour.specs.Turns.{turn_order}
use Rattle.pred_colour.proofs.Ordered.{sorted_by_calls, turns_total}
use Rattle.pred_colour.proofs.turns.sort_turns.Goals as goal

pub returns : goal.returns
returns c = sorted_by_calls turn_order turns_total _ _ c.in_ok-sort_by.ensures.sorted c.in_ok-sort_by.ensures.stable (λ a r q k. search rules)
