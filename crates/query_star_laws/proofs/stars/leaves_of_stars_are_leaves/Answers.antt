use Rattle.query_star_laws.specs.Merging.{stars-patterns}
use Rattle.query_star_laws.proofs.stars.leaves_of_stars_are_leaves.Goals as goal

pub returns : goal.returns
returns c = stars-patterns
