use Rattle.sql_gen_last_binding_laws.proofs.Few.{few}
use Rattle.sql_gen_last_binding_laws.proofs.last.shown_are_few.Goals as goal

pub returns : goal.returns
returns c = few
