use Rattle.layout_counts_meaning.proofs.Bags.{counted-same}
use Rattle.layout_counts_meaning.proofs.same_counts.Goals as goal

pub returns : goal.returns
returns c = counted-same
