use Rattle.sql_gen_chain_laws.proofs.Behind.{goes-on_both}
use Rattle.sql_gen_chain_laws.proofs.chains.both_sides_go_on.Goals as goal

pub returns : goal.returns
returns c = goes-on_both
