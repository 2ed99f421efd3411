use Rattle.layout_facts_laws.proofs.Order.{same-stands}
use Rattle.layout_facts_laws.proofs.Triples.{one_set}
use Rattle.layout_facts_laws.proofs.tables_stand_for_one_set.Goals as goal

pub returns-clause-one : goal.returns-clause-one
returns-clause-one c = one_set

pub returns-clause-order : goal.returns-clause-order
returns-clause-order c = same-stands
