use Rattle.sql_gen_open_laws.proofs.Chain.{arms_hold}
use Rattle.sql_gen_open_laws.proofs.all_arms_open.Goals as goal

pub returns : goal.returns
returns c = arms_hold
