use Rattle.sparql_nesting_laws.proofs.Limits.{query_limits}
use Rattle.sparql_nesting_laws.proofs.laws.depth_limits_are_exact.Goals as goal

pub returns : goal.returns
returns c = query_limits
