use Rattle.query_algebra_laws.specs.TreeSolutions.{eval-binds}
use Rattle.query_algebra_laws.proofs.trees.certain_of_leaves_are_bound.Goals as goal

pub returns : goal.returns
returns g c = eval-binds
