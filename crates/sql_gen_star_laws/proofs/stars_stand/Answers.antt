use Rattle.sql_gen_star_laws.proofs.StarCarries.{star_carries}
use Rattle.sql_gen_star_laws.proofs.stars_stand.Goals as goal

pub returns : goal.returns
returns c = star_carries
