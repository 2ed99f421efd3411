use Rattle.query_algebra_laws.specs.Optional.{left_join_into}
use Rattle.query_algebra_laws.proofs.joins.optional_moves_in.Goals as goal

pub returns : goal.returns
returns c = left_join_into
