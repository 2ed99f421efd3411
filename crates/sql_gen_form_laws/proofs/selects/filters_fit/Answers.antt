use Rattle.sql_gen_form_laws.proofs.Terms.{filter-fits, filter-no_refs}
use Rattle.sql_gen_form_laws.proofs.selects.filters_fit.Goals as goal

pub returns-clause-fits : goal.returns-clause-fits
returns-clause-fits c = filter-fits

pub returns-clause-none : goal.returns-clause-none
returns-clause-none c = filter-no_refs
