use Rattle.sparql_token_laws.proofs.Found.{found_is_spelled}
use Rattle.sparql_token_laws.proofs.laws.found_tokens_are_spelled.Goals as goal

pub returns : goal.returns
returns c = found_is_spelled
