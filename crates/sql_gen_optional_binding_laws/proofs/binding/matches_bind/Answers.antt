use Rattle.sql_gen_optional_binding_laws.specs.MatchBinds.{matches_fine}
use Rattle.sql_gen_optional_binding_laws.proofs.binding.matches_bind.Goals as goal

pub returns : goal.returns
returns c = matches_fine
