use Rattle.query_flow_laws.proofs.Planned.{planned-single}
use Rattle.query_flow_laws.proofs.planned_stars_are_single.Goals as goal

pub returns : goal.returns
returns c = planned-single
