use Rattle.sql_gen_out_laws.proofs.TwoOuts.{outs-go-on}
use Rattle.sql_gen_out_laws.proofs.outs.two_outs_stand.Goals as goal

pub returns : goal.returns
returns c = outs-go-on
