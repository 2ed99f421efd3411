use Rattle.sparql_token_laws.proofs.WholeCut.{cut_is_right, cut_is_only}
use Rattle.sparql_token_laws.proofs.laws.texts_are_cut_by_longest_tokens.Goals as goal

pub returns-clause-right : goal.returns-clause-right
returns-clause-right c = cut_is_right

pub returns-clause-only : goal.returns-clause-only
returns-clause-only c = cut_is_only
