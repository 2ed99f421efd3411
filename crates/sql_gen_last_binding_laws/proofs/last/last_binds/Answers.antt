use Rattle.sql_gen_last_binding_laws.proofs.LastBinds.{last-fine}
use Rattle.sql_gen_last_binding_laws.proofs.last.last_binds.Goals as goal

pub returns : goal.returns
returns c = last-fine
