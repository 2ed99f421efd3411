use Rattle.sparql_cut_laws.specs.EachAnswer.{answers_are_cuts}
use Rattle.sparql_cut_laws.proofs.laws.answers_are_cuts.Goals as goal

pub returns : goal.returns
returns c = answers_are_cuts c.texts_are_cut_by_longest_tokens.ensures.right
