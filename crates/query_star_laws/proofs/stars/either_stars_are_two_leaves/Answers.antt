use Rattle.query_star_laws.specs.Merging.{either-leaves}
use Rattle.query_star_laws.proofs.stars.either_stars_are_two_leaves.Goals as goal

pub returns : goal.returns
returns c = either-leaves
