use Rattle.sparql_renumbering_laws.proofs.Fragment.{fragment_numbered}
use Rattle.sparql_leaf_laws.proofs.Apart.{query-apart}
use Rattle.sparql_leaf_laws.proofs.leaves_are_numbered_apart.Goals as goal

pub returns : goal.returns
returns c = λ q h. query-apart q (fragment_numbered q h)
