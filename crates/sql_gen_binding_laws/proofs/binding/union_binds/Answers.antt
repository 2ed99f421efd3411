use Rattle.sql_gen_binding_laws.specs.StepBinds.{union_fine}
use Rattle.sql_gen_binding_laws.proofs.binding.union_binds.Goals as goal

pub returns : goal.returns
returns c = union_fine
