use Rattle.sparql_faults.proofs.DepthLaws.{IsLeft}
use Rattle.sparql_faults.proofs.brackets.Brackets.is_deeper.Given as goal

abbrev pub invariant-loop-at : goal.invariant-loop-at
invariant-loop-at l = IsLeft l.self l.waits l.most l.left l.at
