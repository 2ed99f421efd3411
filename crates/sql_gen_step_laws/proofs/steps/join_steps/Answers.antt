use Rattle.sql_gen_step_laws.specs.JoinStep.{join_step}
use Rattle.sql_gen_step_laws.proofs.steps.join_steps.Goals as goal

pub returns : goal.returns
returns c = join_step
