use Rattle.sql_gen_chain_binding_laws.proofs.Behind.{script-binds}
use Rattle.sql_gen_chain_binding_laws.proofs.chains.scripts_of_steps_bind.Goals as goal

pub returns : goal.returns
returns c = script-binds
