use Rattle.query_algebra_laws.specs.TreeSolutions.{eval-same}
use Rattle.query_algebra_laws.proofs.trees.trees_respect_leaves.Goals as goal

pub returns : goal.returns
returns g c = eval-same
