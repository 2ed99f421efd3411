use Rattle.sparql_cut_laws.specs.EachAnswer.{cuts_are_answered, bad_places_are_answered}
use Rattle.sparql_cut_laws.proofs.laws.cuts_are_answered.Goals as goal

pub returns-clause-cut : goal.returns-clause-cut
returns-clause-cut c = cuts_are_answered c.texts_are_cut_by_longest_tokens.ensures.only

pub returns-clause-bad : goal.returns-clause-bad
returns-clause-bad c = bad_places_are_answered c.texts_are_cut_by_longest_tokens.ensures.only
