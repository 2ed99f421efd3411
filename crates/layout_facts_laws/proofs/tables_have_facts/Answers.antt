use Rattle.layout_facts_laws.proofs.Told.{some_facts, together, each_tells_ids, each_tells_facts}
use Rattle.layout_facts_laws.proofs.tables_have_facts.Goals as goal

pub returns-clause-some : goal.returns-clause-some
returns-clause-some c = some_facts

pub returns-clause-together : goal.returns-clause-together
returns-clause-together c = together

pub returns-clause-ids : goal.returns-clause-ids
returns-clause-ids c = each_tells_ids

pub returns-clause-facts : goal.returns-clause-facts
returns-clause-facts c = each_tells_facts
