use Rattle.layout_stats_laws.proofs.Counts.{spilled-same}
use Rattle.layout_stats_laws.proofs.spilled.Goals as goal

pub returns : goal.returns
returns c = spilled-same
