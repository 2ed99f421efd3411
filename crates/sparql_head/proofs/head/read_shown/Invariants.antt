use Rattle.std.proofs.Common.{◌<◌, length}
use Rattle.sparql_head.specs.HeadSteps.{ShownAlong}
use Rattle.sparql_head.proofs.head.read_shown.Given as goal

abbrev pub invariant-loop-variable : goal.invariant-loop-variable
invariant-loop-variable l = ShownAlong l.fn.tokens l.variables l.rest × (length l.rest < length l.fn.tokens)

abbrev pub decreases-loop-variable : goal.decreases-loop-variable
decreases-loop-variable l = length l.rest
