use Rattle.sql_gen_form_laws.proofs.Joins.{join-fits, join-no_refs}
use Rattle.sql_gen_form_laws.proofs.selects.joins_fit.Goals as goal

pub returns-clause-fits : goal.returns-clause-fits
returns-clause-fits c = join-fits

pub returns-clause-none : goal.returns-clause-none
returns-clause-none c = join-no_refs
