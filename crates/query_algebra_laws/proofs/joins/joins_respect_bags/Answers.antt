use Rattle.query_algebra_laws.specs.Joins.{same-join}
use Rattle.query_algebra_laws.proofs.joins.joins_respect_bags.Goals as goal

pub returns : goal.returns
returns c = same-join
