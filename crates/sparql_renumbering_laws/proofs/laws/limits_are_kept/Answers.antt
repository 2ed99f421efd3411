use Rattle.sparql_renumbering_laws.proofs.Fragment.{fragment_limits}
use Rattle.sparql_renumbering_laws.proofs.laws.limits_are_kept.Goals as goal

pub returns : goal.returns
returns c = fragment_limits
