use Rattle.std.proofs.Common.{◌≡◌, length}
use Rattle.sparql_query_meaning.specs.Lexemes.{without_zeros}
use Rattle.sparql_lexemes.proofs.numbers.without_zeros.Given as goal

abbrev pub invariant-zeros : goal.invariant-zeros
invariant-zeros l = without_zeros l.rest ≡ without_zeros l.fn.text

abbrev pub decreases-zeros : goal.decreases-zeros
decreases-zeros l = length l.rest
