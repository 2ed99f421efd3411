use Rattle.sql_gen_star_fit_laws.proofs.Distinct.{distinct}
use Rattle.sql_gen_star_fit_laws.proofs.triples_are_distinct.Goals as goal

pub returns : goal.returns
returns c = distinct
