use Rattle.query_merging_laws.proofs.Trees.{merged-comes}
use Rattle.query_merging_laws.proofs.merged_plans_come_from_the_query.Goals as goal

pub returns : goal.returns
returns c = merged-comes
