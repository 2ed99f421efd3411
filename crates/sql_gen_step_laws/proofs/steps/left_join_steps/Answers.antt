use Rattle.sql_gen_step_laws.specs.LeftStep.{left_join_step}
use Rattle.sql_gen_step_laws.proofs.steps.left_join_steps.Goals as goal

pub returns : goal.returns
returns c = left_join_step
