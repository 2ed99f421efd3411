use Rattle.layout_facts_laws.proofs.Told.{one_facts, one_ids, one_counts}
use Rattle.layout_facts_laws.proofs.tables_tell_one.Goals as goal

pub returns-clause-facts : goal.returns-clause-facts
returns-clause-facts c = one_facts

pub returns-clause-ids : goal.returns-clause-ids
returns-clause-ids c = one_ids

pub returns-clause-counts : goal.returns-clause-counts
returns-clause-counts c = one_counts
