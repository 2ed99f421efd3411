use Rattle.query_algebra_laws.specs.Joins.{join-comm}
use Rattle.query_algebra_laws.proofs.joins.joins_turn.Goals as goal

pub returns : goal.returns
returns c = join-comm
