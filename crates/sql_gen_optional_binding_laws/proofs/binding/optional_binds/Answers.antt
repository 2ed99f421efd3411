use Rattle.sql_gen_optional_binding_laws.specs.MatchBinds.{optional_fine}
use Rattle.sql_gen_optional_binding_laws.proofs.binding.optional_binds.Goals as goal

pub returns : goal.returns
returns c = optional_fine
