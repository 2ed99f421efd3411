use Rattle.sql_gen_form_laws.proofs.Expressions.{name-fits, int-fits, text-fits, truth-fits, null-fits}
use Rattle.sql_gen_form_laws.proofs.forms.constants_fit.Goals as goal

pub returns-clause-name : goal.returns-clause-name
returns-clause-name c = name-fits

pub returns-clause-int : goal.returns-clause-int
returns-clause-int c = int-fits

pub returns-clause-text : goal.returns-clause-text
returns-clause-text c = text-fits

pub returns-clause-truth : goal.returns-clause-truth
returns-clause-truth c = truth-fits

pub returns-clause-null : goal.returns-clause-null
returns-clause-null c = null-fits
