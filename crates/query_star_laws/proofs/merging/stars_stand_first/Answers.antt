use Rattle.query_star_laws.specs.Merging.{star-first}
use Rattle.query_star_laws.proofs.merging.stars_stand_first.Goals as goal

pub returns : goal.returns
returns c = star-first
