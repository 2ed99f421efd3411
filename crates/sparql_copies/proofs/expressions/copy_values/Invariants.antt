use Rattle.std.proofs.Common.{◌≡◌, take}
use Rattle.sparql_copies.proofs.expressions.copy_values.Given as goal

abbrev pub invariant-loop-e : goal.invariant-loop-e
invariant-loop-e l = l.copies ≡ take l.e-index l.es
