use Rattle.sparql_fragment_laws.specs.Within.{within_text}
use Rattle.sparql_fragment_laws.proofs.limits.texts_stay_within.Goals as goal

pub returns : goal.returns
returns c = within_text
