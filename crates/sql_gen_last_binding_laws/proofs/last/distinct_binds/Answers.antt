use Rattle.sql_gen_last_binding_laws.proofs.LastBinds.{distinct-fine}
use Rattle.sql_gen_last_binding_laws.proofs.last.distinct_binds.Goals as goal

pub returns : goal.returns
returns c = distinct-fine
