use Rattle.sql_gen_form_laws.proofs.Joins.{union-fits, union-no_refs}
use Rattle.sql_gen_form_laws.proofs.selects.unions_fit.Goals as goal

pub returns-clause-fits : goal.returns-clause-fits
returns-clause-fits c = union-fits

pub returns-clause-none : goal.returns-clause-none
returns-clause-none c = union-no_refs
