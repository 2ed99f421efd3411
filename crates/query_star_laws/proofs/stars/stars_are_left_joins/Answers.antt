use Rattle.query_star_laws.specs.StarLeaves.{both-left_joins}
use Rattle.query_star_laws.proofs.stars.stars_are_left_joins.Goals as goal

pub returns : goal.returns
returns c = both-left_joins
