use Rattle.sql_gen_either_laws.proofs.EitherCarries.{either_carries}
use Rattle.sql_gen_either_laws.proofs.either_stars_stand.Goals as goal

pub returns : goal.returns
returns c = either_carries
