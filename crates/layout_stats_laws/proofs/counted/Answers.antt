use Rattle.layout_stats_laws.proofs.Counts.{side-counted, store-counted}
use Rattle.layout_stats_laws.proofs.counted.Goals as goal

pub returns-clause-side : goal.returns-clause-side
returns-clause-side c = side-counted

pub returns-clause-store : goal.returns-clause-store
returns-clause-store c = store-counted
