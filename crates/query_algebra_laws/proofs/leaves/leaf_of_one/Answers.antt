use Rattle.query_algebra_laws.specs.OneLeaf.{leaf_one}
use Rattle.query_algebra_laws.proofs.leaves.leaf_of_one.Goals as goal

pub returns : goal.returns
returns c = leaf_one
