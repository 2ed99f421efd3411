use Rattle.sql_gen_form_laws.proofs.Terms.{matches-fit, matches-no_refs}
use Rattle.sql_gen_form_laws.proofs.selects.matches_fit.Goals as goal

pub returns-clause-fits : goal.returns-clause-fits
returns-clause-fits c = matches-fit

pub returns-clause-none : goal.returns-clause-none
returns-clause-none c = matches-no_refs
