use Rattle.sparql_renumbering_laws.proofs.Fragment.{fragment_numbered}
use Rattle.sparql_renumbering_laws.proofs.laws.patterns_are_numbered.Goals as goal

pub returns : goal.returns
returns c = fragment_numbered
