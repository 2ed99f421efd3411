use Rattle.std.proofs.Common.{drop}
use Rattle.query_plan_meaning.specs.Stars.{arms_variables}
use Rattle.sparql_certain.proofs.StarSets.{RestOfArms}
use Rattle.sparql_certain.proofs.stars.of_arms.Given as goal

abbrev pub invariant-loop-arm : goal.invariant-loop-arm
invariant-loop-arm l = RestOfArms l.set (drop l.arm-index l.arms) (arms_variables l.arms)
