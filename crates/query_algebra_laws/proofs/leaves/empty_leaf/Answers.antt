use Rattle.query_algebra_laws.specs.LeavesJoin.{leaf_nothing}
use Rattle.query_algebra_laws.proofs.leaves.empty_leaf.Goals as goal

pub returns : goal.returns
returns c = leaf_nothing
