use Rattle.query_algebra_laws.specs.TreeSolutions.{solutions-over}
use Rattle.query_algebra_laws.proofs.trees.solutions_stay_over.Goals as goal

pub returns : goal.returns
returns c = solutions-over
