use Rattle.layout_facts_laws.proofs.Spilled.{direct_listed, reverse_listed}
use Rattle.layout_facts_laws.proofs.facts_list_the_spilled.Goals as goal

pub returns-clause-direct : goal.returns-clause-direct
returns-clause-direct c = direct_listed

pub returns-clause-reverse : goal.returns-clause-reverse
returns-clause-reverse c = reverse_listed
