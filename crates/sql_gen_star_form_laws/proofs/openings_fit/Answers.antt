use Rattle.sql_gen_star_form_laws.proofs.Open.{open-fits, open-no_refs}
use Rattle.sql_gen_star_form_laws.proofs.openings_fit.Goals as goal

pub returns-clause-fits : goal.returns-clause-fits
returns-clause-fits c = open-fits

pub returns-clause-none : goal.returns-clause-none
returns-clause-none c = open-no_refs
