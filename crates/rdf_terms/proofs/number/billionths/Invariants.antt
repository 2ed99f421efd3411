use Rattle.std.proofs.Common.{◌++◌, replicate}
use Rattle.rdf_terms.proofs.Numbers.{IsCount}
use Rattle.rdf_terms.proofs.number.billionths.Given as goal

abbrev pub invariant-loop-i : goal.invariant-loop-i
invariant-loop-i l = IsCount (l.fraction ++ replicate 9 48) l.number l.i
