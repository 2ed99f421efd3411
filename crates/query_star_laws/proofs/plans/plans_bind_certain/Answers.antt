use Rattle.query_star_laws.specs.PlanSolutions.{plan-bind}
use Rattle.query_star_laws.proofs.plans.plans_bind_certain.Goals as goal

pub returns : goal.returns
returns c = plan-bind
