use Rattle.query_flow_laws.proofs.Greedy.{flow-greedy}
use Rattle.query_flow_laws.proofs.flows_are_greedy.Goals as goal

pub returns : goal.returns
returns c = flow-greedy
