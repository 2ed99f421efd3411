use Rattle.layout_facts.proofs.Told.{facts-told, ids-told, both-told}
use Rattle.layout_facts.proofs.laws.stores_tell.Goals as goal

pub returns-clause-facts : goal.returns-clause-facts
returns-clause-facts c = facts-told

pub returns-clause-ids : goal.returns-clause-ids
returns-clause-ids c = ids-told

pub returns-clause-together : goal.returns-clause-together
returns-clause-together c = both-told
