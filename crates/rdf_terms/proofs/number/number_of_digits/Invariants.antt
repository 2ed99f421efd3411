use Rattle.rdf_terms.proofs.Numbers.{IsClamped}
use Rattle.rdf_terms.proofs.number.number_of_digits.Given as goal

abbrev pub invariant-loop-byte : goal.invariant-loop-byte
invariant-loop-byte l = IsClamped l.digits l.number l.byte-index
