use Rattle.query_flow_laws.proofs.Greedy.{flow_of-is}
use Rattle.query_flow_laws.proofs.some_flow.Goals as goal

pub returns : goal.returns
returns c = flow_of-is
