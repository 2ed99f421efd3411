use Rattle.std.proofs.Common.{length}
use Rattle.sparql_tokens.specs.Nameless.{Passed}
use Rattle.sparql_tokens.proofs.names.nameless_run.Given as goal

abbrev pub invariant-chars : goal.invariant-chars
invariant-chars l = Passed l.at l.rest l.chars

abbrev pub decreases-chars : goal.decreases-chars
decreases-chars l = length l.rest
