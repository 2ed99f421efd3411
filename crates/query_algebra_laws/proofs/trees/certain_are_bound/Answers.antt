use Rattle.query_algebra_laws.specs.TreeSolutions.{solutions-bind}
use Rattle.query_algebra_laws.proofs.trees.certain_are_bound.Goals as goal

pub returns : goal.returns
returns c = solutions-bind
