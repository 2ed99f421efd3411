use Rattle.std.proofs.Common.{drop}
use Rattle.query_plan_meaning.specs.Stars.{stars_certain}
use Rattle.sparql_certain.proofs.StarSets.{RestOfStars}
use Rattle.sparql_certain.proofs.stars.of_stars.Given as goal

abbrev pub invariant-loop-star : goal.invariant-loop-star
invariant-loop-star l = RestOfStars l.set (drop l.star-index l.stars) (stars_certain l.stars)
