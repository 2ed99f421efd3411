use Rattle.sql_gen_last_form_laws.proofs.LastForms.{distinct-fits, distinct-no_refs}
use Rattle.sql_gen_last_form_laws.proofs.last.distinct_fits.Goals as goal

pub returns-clause-fits : goal.returns-clause-fits
returns-clause-fits c = distinct-fits

pub returns-clause-none : goal.returns-clause-none
returns-clause-none c = distinct-no_refs
