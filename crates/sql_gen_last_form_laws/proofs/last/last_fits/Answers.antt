use Rattle.sql_gen_last_form_laws.proofs.LastForms.{last-fits, last-no_refs}
use Rattle.sql_gen_last_form_laws.proofs.last.last_fits.Goals as goal

pub returns-clause-fits : goal.returns-clause-fits
returns-clause-fits c = last-fits

pub returns-clause-none : goal.returns-clause-none
returns-clause-none c = last-no_refs
