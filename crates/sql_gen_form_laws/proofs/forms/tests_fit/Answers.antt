use Rattle.sql_gen_form_laws.proofs.Expressions.{equal-fits, less-fits, is_null-fits}
use Rattle.sql_gen_form_laws.proofs.forms.tests_fit.Goals as goal

pub returns-clause-equal : goal.returns-clause-equal
returns-clause-equal c = equal-fits

pub returns-clause-less : goal.returns-clause-less
returns-clause-less c = less-fits

pub returns-clause-null : goal.returns-clause-null
returns-clause-null c = is_null-fits
