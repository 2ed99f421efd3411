use Rattle.sparql_token_laws.proofs.Covering.{none_longer, none_spelled}
use Rattle.sparql_token_laws.proofs.laws.no_longer_token_is_spelled.Goals as goal

pub returns-clause-longer : goal.returns-clause-longer
returns-clause-longer c = none_longer

pub returns-clause-none : goal.returns-clause-none
returns-clause-none c = none_spelled
