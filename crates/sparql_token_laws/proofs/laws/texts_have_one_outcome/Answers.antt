use Rattle.sparql_token_laws.proofs.OneOutcome.{each_is_cut_or_breaks, one_cut, one_bad_place, never_both}
use Rattle.sparql_token_laws.proofs.laws.texts_have_one_outcome.Goals as goal

pub returns-clause-either : goal.returns-clause-either
returns-clause-either c = each_is_cut_or_breaks

pub returns-clause-one : goal.returns-clause-one
returns-clause-one c = one_cut

pub returns-clause-place : goal.returns-clause-place
returns-clause-place c = one_bad_place

pub returns-clause-apart : goal.returns-clause-apart
returns-clause-apart c = never_both
