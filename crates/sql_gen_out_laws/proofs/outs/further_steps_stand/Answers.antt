use Rattle.sql_gen_out_laws.proofs.OneOut.{out-goes-on}
use Rattle.sql_gen_out_laws.proofs.outs.further_steps_stand.Goals as goal

pub returns : goal.returns
returns c = out-goes-on
