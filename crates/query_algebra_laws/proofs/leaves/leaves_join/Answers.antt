use Rattle.query_algebra_laws.specs.LeavesJoin.{leaf_append}
use Rattle.query_algebra_laws.proofs.leaves.leaves_join.Goals as goal

pub returns : goal.returns
returns c = leaf_append
