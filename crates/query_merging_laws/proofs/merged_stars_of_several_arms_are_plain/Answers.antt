use Rattle.query_merging_laws.proofs.Trees.{merged-plain}
use Rattle.query_merging_laws.proofs.merged_stars_of_several_arms_are_plain.Goals as goal

pub returns : goal.returns
returns c = merged-plain
