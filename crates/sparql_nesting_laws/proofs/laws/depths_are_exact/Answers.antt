use Rattle.sparql_nesting_laws.proofs.Depths.{query_depths}
use Rattle.sparql_nesting_laws.proofs.laws.depths_are_exact.Goals as goal

pub returns : goal.returns
returns c = query_depths
