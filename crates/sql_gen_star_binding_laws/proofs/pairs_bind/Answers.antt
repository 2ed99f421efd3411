use Rattle.sql_gen_star_binding_laws.proofs.PairsBind.{pairs_fine}
use Rattle.sql_gen_star_binding_laws.proofs.pairs_bind.Goals as goal

pub returns : goal.returns
returns c = pairs_fine
