use Rattle.sql_gen_star_binding_laws.proofs.AccessBinds.{access_fine}
use Rattle.sql_gen_star_binding_laws.proofs.access_binds.Goals as goal

pub returns : goal.returns
returns c = access_fine
