use Rattle.query_algebra_laws.specs.Joins.{same-left_join}
use Rattle.query_algebra_laws.proofs.joins.left_joins_respect_bags.Goals as goal

pub returns : goal.returns
returns c = same-left_join
