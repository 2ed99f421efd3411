use Rattle.std.proofs.Common.{length}
use Rattle.sparql_faults.specs.Faults.{Along}
use Rattle.sparql_faults.proofs.faults.first_fault.Given as goal

abbrev pub invariant-tokens : goal.invariant-tokens
invariant-tokens l = Along l.fn.tokens l.before l.state l.rest

abbrev pub decreases-tokens : goal.decreases-tokens
decreases-tokens l = length l.rest
