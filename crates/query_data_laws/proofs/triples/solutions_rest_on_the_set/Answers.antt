use Rattle.query_data_laws.specs.Solutions.{same-solutions}
use Rattle.query_data_laws.proofs.triples.solutions_rest_on_the_set.Goals as goal

pub returns : goal.returns
returns c = same-solutions
