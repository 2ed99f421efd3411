use Rattle.std.proofs.Common.{◌<◌, length}
use Rattle.sparql_values.specs.ListSteps.{MembersAlong}
use Rattle.sparql_values.proofs.lists.read_members.Given as goal

abbrev pub invariant-loop-after : goal.invariant-loop-after
invariant-loop-after l = MembersAlong l.fn.tokens l.values l.rest × (length l.rest < length l.fn.tokens)

abbrev pub decreases-loop-after : goal.decreases-loop-after
decreases-loop-after l = length l.rest
