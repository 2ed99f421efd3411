use Rattle.sql_gen_star_binding_laws.proofs.OpenBinds.{open_fine}
use Rattle.sql_gen_star_binding_laws.proofs.openings_bind.Goals as goal

pub returns : goal.returns
returns c = open_fine
