use Rattle.query_star_laws.specs.PlanSolutions.{plan-over}
use Rattle.query_star_laws.proofs.plans.plans_stay_over.Goals as goal

pub returns : goal.returns
returns c = plan-over
