use Rattle.sql_gen_star_form_laws.proofs.Chain.{arms-fit, arms-one_ref}
use Rattle.sql_gen_star_form_laws.proofs.steps_of_arms_fit.Goals as goal

pub returns-clause-fits : goal.returns-clause-fits
returns-clause-fits c = arms-fit

pub returns-clause-once : goal.returns-clause-once
returns-clause-once c = arms-one_ref
