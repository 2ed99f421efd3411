use Rattle.sparql_query_laws.specs.Limits.{query_counts}
use Rattle.sparql_query_laws.proofs.laws.counts_are_exact.Goals as goal

pub returns : goal.returns
returns c = query_counts
