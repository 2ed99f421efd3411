use Rattle.std.proofs.Common.{◌≡◌, take}
use Rattle.sparql_copies.proofs.expressions.+copies.Given as goal

abbrev pub invariant-copy_truths-loop-e : goal.invariant-copy_truths-loop-e
invariant-copy_truths-loop-e l = l.copies ≡ take l.e-index l.es
