use Rattle.std.proofs.Common.{◌<◌, length}
use Rattle.sparql_terms.specs.TripleSteps.{ObjectsAlong}
use Rattle.sparql_terms.proofs.objects.read_objects.Given as goal

abbrev pub invariant-loop-after : goal.invariant-loop-after
invariant-loop-after l = ObjectsAlong l.fn.tokens l.objects l.rest × (length l.rest < length l.fn.tokens)

abbrev pub decreases-loop-after : goal.decreases-loop-after
decreases-loop-after l = length l.rest
