use Rattle.flow_tree.proofs.Taking.{greedy}
use Rattle.flow_tree.proofs.order.flow.Goals as goal

pub returns-clause-greedy : goal.returns-clause-greedy
returns-clause-greedy c = greedy _ _
