use Rattle.std.proofs.Common.{arith}
use Rattle.std.proofs.lemmas.Int.{ints}
use Rattle.jiff_core.proofs.SignedLemmas.{signed_arith}
use Rattle.rdf_terms.proofs.moment.nanoseconds.Goals as goal

pub overflow_add-result : goal.overflow_add-result
overflow_add-result c = first_of (omega (arith, signed_arith), omega (arith, ints))

pub returns : goal.returns
returns c = first_of (omega (arith, signed_arith), omega (arith, ints))
