use Rattle.sql_gen_binding_laws.specs.TermBinds.{filter_fine}
use Rattle.sql_gen_binding_laws.proofs.binding.filter_binds.Goals as goal

pub returns : goal.returns
returns c = filter_fine
