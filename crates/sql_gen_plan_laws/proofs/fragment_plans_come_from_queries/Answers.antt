use Rattle.sql_gen_plan_laws.proofs.Plans.{fragment-comes}
use Rattle.sql_gen_plan_laws.proofs.fragment_plans_come_from_queries.Goals as goal

pub returns : goal.returns
returns c = fragment-comes
