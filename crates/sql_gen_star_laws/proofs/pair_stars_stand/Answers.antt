use Rattle.sql_gen_star_laws.proofs.PairCarries.{pair_carries}
use Rattle.sql_gen_star_laws.proofs.pair_stars_stand.Goals as goal

pub returns : goal.returns
returns c = pair_carries
