use Rattle.sql_gen_star_form_laws.proofs.Access.{access-fits, access-refs}
use Rattle.sql_gen_star_form_laws.proofs.access_fits.Goals as goal

pub returns-clause-fits : goal.returns-clause-fits
returns-clause-fits c = access-fits

pub returns-clause-once : goal.returns-clause-once
returns-clause-once c = access-refs
