use Rattle.query_algebra_laws.specs.Split.{left_join_split}
use Rattle.query_algebra_laws.proofs.joins.left_joins_split.Goals as goal

pub returns : goal.returns
returns c = left_join_split
