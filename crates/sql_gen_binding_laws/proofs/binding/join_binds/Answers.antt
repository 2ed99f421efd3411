use Rattle.sql_gen_binding_laws.specs.StepBinds.{join_fine}
use Rattle.sql_gen_binding_laws.proofs.binding.join_binds.Goals as goal

pub returns : goal.returns
returns c = join_fine
