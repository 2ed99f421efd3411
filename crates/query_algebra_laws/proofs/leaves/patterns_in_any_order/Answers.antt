use Rattle.query_algebra_laws.specs.LeavesJoin.{leaf-order}
use Rattle.query_algebra_laws.proofs.leaves.patterns_in_any_order.Goals as goal

pub returns : goal.returns
returns c = leaf-order
