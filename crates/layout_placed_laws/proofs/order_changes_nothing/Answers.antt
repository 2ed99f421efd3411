use Rattle.layout_placed_laws.proofs.Same.{same-standing, same-facts, same-ids, same-counts, same-stats}
use Rattle.layout_placed_laws.proofs.order_changes_nothing.Goals as goal

pub returns-clause-standing : goal.returns-clause-standing
returns-clause-standing c = same-standing

pub returns-clause-facts : goal.returns-clause-facts
returns-clause-facts c = same-facts

pub returns-clause-ids : goal.returns-clause-ids
returns-clause-ids c = same-ids

pub returns-clause-counts : goal.returns-clause-counts
returns-clause-counts c = same-counts

pub returns-clause-stats : goal.returns-clause-stats
returns-clause-stats c = same-stats
