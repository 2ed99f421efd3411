use Rattle.query_star_laws.specs.StarVariables.{stars-over}
use Rattle.query_star_laws.proofs.stars.stars_stay_over.Goals as goal

pub returns : goal.returns
returns c = stars-over
