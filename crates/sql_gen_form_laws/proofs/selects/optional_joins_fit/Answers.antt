use Rattle.sql_gen_form_laws.proofs.Terms.{optional-fits, optional-no_refs}
use Rattle.sql_gen_form_laws.proofs.selects.optional_joins_fit.Goals as goal

pub returns-clause-fits : goal.returns-clause-fits
returns-clause-fits c = optional-fits

pub returns-clause-none : goal.returns-clause-none
returns-clause-none c = optional-no_refs
