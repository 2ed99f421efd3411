use Rattle.sql_gen_chain_laws.proofs.Behind.{goes-on}
use Rattle.sql_gen_chain_laws.proofs.chains.one_side_goes_on.Goals as goal

pub returns : goal.returns
returns c = goes-on
