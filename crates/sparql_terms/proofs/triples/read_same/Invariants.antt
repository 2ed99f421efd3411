use Rattle.std.proofs.Common.{◌<◌, length}
use Rattle.sparql_terms.specs.TripleSteps.{SameAlong}
use Rattle.sparql_terms.proofs.triples.read_same.Given as goal

abbrev pub invariant-loop-after : goal.invariant-loop-after
invariant-loop-after l = SameAlong l.subject l.fn.tokens l.patterns l.rest × (length l.rest < length l.fn.tokens)

abbrev pub decreases-loop-after : goal.decreases-loop-after
decreases-loop-after l = length l.rest
