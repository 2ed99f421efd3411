use Rattle.std.proofs.Common.{◌≡◌, length}
use Rattle.rdf_meaning.specs.Digits.{without_trailing_zeros}
use Rattle.rdf_terms.proofs.number.trim_trailing_zeros.Given as goal

abbrev pub invariant-loop-last : goal.invariant-loop-last
invariant-loop-last l = without_trailing_zeros l.kept ≡ without_trailing_zeros l.digits

abbrev pub decreases-loop-last : goal.decreases-loop-last
decreases-loop-last l = length l.kept
