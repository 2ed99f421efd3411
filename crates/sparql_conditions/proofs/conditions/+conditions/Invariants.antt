use Rattle.std.proofs.Common.{◌+◌, ◌*◌, ◌<◌, length}
use Rattle.sparql_conditions.specs.AndSteps.{ChainAlong as AndAlong}
use Rattle.sparql_conditions.specs.OrSteps.{ChainAlong as OrAlong}
use Rattle.sparql_conditions.proofs.conditions.+conditions.Given as goal

abbrev pub decreases-read_item : goal.decreases-read_item
decreases-read_item l = 5 * length l.tokens.now

abbrev pub decreases-read_compared : goal.decreases-read_compared
decreases-read_compared l = 5 * length l.tokens.now + 1

abbrev pub decreases-read_rel : goal.decreases-read_rel
decreases-read_rel l = 5 * length l.tokens.now + 2

abbrev pub decreases-read_and : goal.decreases-read_and
decreases-read_and l = 5 * length l.tokens.now + 3

abbrev pub decreases-read_truth : goal.decreases-read_truth
decreases-read_truth l = 5 * length l.tokens.now + 4

abbrev pub invariant-read_and-loop-after : goal.invariant-read_and-loop-after
invariant-read_and-loop-after l = AndAlong l.fn.tokens l.members l.rest × (length l.rest < length l.fn.tokens)

abbrev pub decreases-read_and-loop-after : goal.decreases-read_and-loop-after
decreases-read_and-loop-after l = length l.rest

abbrev pub invariant-read_truth-loop-after : goal.invariant-read_truth-loop-after
invariant-read_truth-loop-after l = OrAlong l.fn.tokens l.members l.rest × (length l.rest < length l.fn.tokens)

abbrev pub decreases-read_truth-loop-after : goal.decreases-read_truth-loop-after
decreases-read_truth-loop-after l = length l.rest
