use Rattle.query_data_laws.specs.Solutions.{same-answer}
use Rattle.query_data_laws.proofs.triples.answers_rest_on_the_set.Goals as goal

pub returns : goal.returns
returns c = same-answer
