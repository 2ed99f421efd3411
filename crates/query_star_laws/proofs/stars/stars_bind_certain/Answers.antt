use Rattle.query_star_laws.specs.StarVariables.{stars-bind}
use Rattle.query_star_laws.proofs.stars.stars_bind_certain.Goals as goal

pub returns : goal.returns
returns c = stars-bind
