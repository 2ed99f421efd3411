use Rattle.query_flow_laws.proofs.Planned.{planned-comes}
use Rattle.query_flow_laws.proofs.planned_plans_come_from_queries.Goals as goal

pub returns : goal.returns
returns c = planned-comes
