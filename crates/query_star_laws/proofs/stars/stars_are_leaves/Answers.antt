use Rattle.query_star_laws.specs.Merging.{star-leaf}
use Rattle.query_star_laws.proofs.stars.stars_are_leaves.Goals as goal

pub returns : goal.returns
returns c = star-leaf
