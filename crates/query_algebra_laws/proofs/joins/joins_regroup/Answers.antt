use Rattle.query_algebra_laws.specs.Joins.{join-assoc}
use Rattle.query_algebra_laws.proofs.joins.joins_regroup.Goals as goal

pub returns : goal.returns
returns c = join-assoc
