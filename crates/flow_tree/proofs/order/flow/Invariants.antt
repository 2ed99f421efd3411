use Rattle.std.proofs.Common.{◌≡◌, map, take}
use Rattle.query_flow_meaning.specs.Flow.{flow_step}
use Rattle.flow_tree.proofs.order.flow.Given as goal

abbrev pub invariant-loop-choice : goal.invariant-loop-choice
invariant-loop-choice l = l.steps.items ≡ map (flow_step l.counts) (take l.choice-index l.choice-items)
