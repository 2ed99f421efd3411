use Rattle.sql_gen_chain_binding_laws.proofs.Behind.{append-bind}
use Rattle.sql_gen_chain_binding_laws.proofs.chains.further_steps_bind.Goals as goal

pub returns : goal.returns
returns c = append-bind
