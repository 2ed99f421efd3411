use Rattle.sql_gen_open_laws.proofs.AccessStep.{access_step}
use Rattle.sql_gen_open_laws.proofs.access_steps.Goals as goal

pub returns : goal.returns
returns c = access_step
