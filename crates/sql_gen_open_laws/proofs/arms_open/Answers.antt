use Rattle.sql_gen_open_laws.proofs.OpenStep.{open_step}
use Rattle.sql_gen_open_laws.proofs.arms_open.Goals as goal

pub returns : goal.returns
returns c = open_step
