use Rattle.sql_gen_step_laws.specs.UnionStep.{union_step}
use Rattle.sql_gen_step_laws.proofs.steps.union_steps.Goals as goal

pub returns : goal.returns
returns c = union_step
