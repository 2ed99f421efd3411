use Rattle.sparql_renumbering_laws.proofs.Fragment.{fragment_names}
use Rattle.sparql_renumbering_laws.proofs.laws.variables_have_names.Goals as goal

pub returns : goal.returns
returns c = fragment_names
