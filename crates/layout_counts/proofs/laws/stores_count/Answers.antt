use Rattle.layout_counts.proofs.Constants.{tables-counted}
use Rattle.layout_counts.proofs.laws.stores_count.Goals as goal

pub returns : goal.returns
returns c = tables-counted
