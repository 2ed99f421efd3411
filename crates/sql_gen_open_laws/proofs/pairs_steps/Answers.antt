use Rattle.sql_gen_open_laws.proofs.PairStep.{pair_step}
use Rattle.sql_gen_open_laws.proofs.pairs_steps.Goals as goal

pub returns : goal.returns
returns c = pair_step
