use Rattle.query_flow_laws.proofs.Costs.{constant-cost}
use Rattle.query_flow_laws.proofs.constants_cost_their_counts.Goals as goal

pub returns : goal.returns
returns c = constant-cost
