use Rattle.sql_gen_star_form_laws.proofs.Pairs.{pairs-fit, pairs-refs}
use Rattle.sql_gen_star_form_laws.proofs.pairs_fit.Goals as goal

pub returns-clause-fits : goal.returns-clause-fits
returns-clause-fits c = pairs-fit

pub returns-clause-each : goal.returns-clause-each
returns-clause-each c = pairs-refs
