use Rattle.layout_facts_laws.proofs.Spilled.{plain_none}
use Rattle.layout_table_laws.proofs.Strangers.{no_entity, no_predicate, terms_plain}
use Rattle.layout_table_laws.proofs.strangers_stand_nowhere.Goals as goal

pub returns-clause-entities : goal.returns-clause-entities
returns-clause-entities c = no_entity

pub returns-clause-predicates : goal.returns-clause-predicates
returns-clause-predicates c = no_predicate

pub returns-clause-spilled : goal.returns-clause-spilled
returns-clause-spilled c = plain_none

pub returns-clause-terms : goal.returns-clause-terms
returns-clause-terms c = terms_plain
