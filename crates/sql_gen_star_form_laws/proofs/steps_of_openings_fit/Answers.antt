use Rattle.sql_gen_star_form_laws.proofs.Chain.{openings-fit, openings-no_refs}
use Rattle.sql_gen_star_form_laws.proofs.steps_of_openings_fit.Goals as goal

pub returns-clause-fits : goal.returns-clause-fits
returns-clause-fits c = openings-fit

pub returns-clause-none : goal.returns-clause-none
returns-clause-none c = openings-no_refs
