use Rattle.sql_gen_plan_laws.proofs.Plans.{planned-compilable}
use Rattle.sql_gen_plan_laws.proofs.planned_plans_are_compilable.Goals as goal

pub returns : goal.returns
returns c = planned-compilable
