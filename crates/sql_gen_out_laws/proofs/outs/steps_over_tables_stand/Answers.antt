use Rattle.sql_gen_out_laws.proofs.OneOut.{first-stands}
use Rattle.sql_gen_out_laws.proofs.outs.steps_over_tables_stand.Goals as goal

pub returns : goal.returns
returns c = first-stands
