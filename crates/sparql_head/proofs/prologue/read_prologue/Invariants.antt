use Rattle.std.proofs.Common.{◌≤◌, length}
use Rattle.sparql_head.specs.HeadSteps.{PrologueAlong}
use Rattle.sparql_head.proofs.prologue.read_prologue.Given as goal

abbrev pub invariant-loop-after : goal.invariant-loop-after
invariant-loop-after l = PrologueAlong l.fn.tokens l.rest × (length l.rest ≤ length l.fn.tokens)

abbrev pub decreases-loop-after : goal.decreases-loop-after
decreases-loop-after l = length l.rest
