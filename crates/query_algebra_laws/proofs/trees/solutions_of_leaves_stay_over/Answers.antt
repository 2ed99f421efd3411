use Rattle.query_algebra_laws.specs.TreeSolutions.{eval-over}
use Rattle.query_algebra_laws.proofs.trees.solutions_of_leaves_stay_over.Goals as goal

pub returns : goal.returns
returns g c = eval-over
