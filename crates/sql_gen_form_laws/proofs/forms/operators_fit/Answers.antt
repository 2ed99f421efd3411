use Rattle.sql_gen_form_laws.proofs.Expressions.{not-fits, all-fits, any-fits, first-fits, case-fits, every-fits}
use Rattle.sql_gen_form_laws.proofs.forms.operators_fit.Goals as goal

pub returns-clause-not : goal.returns-clause-not
returns-clause-not c = not-fits

pub returns-clause-all : goal.returns-clause-all
returns-clause-all c = all-fits

pub returns-clause-any : goal.returns-clause-any
returns-clause-any c = any-fits

pub returns-clause-first : goal.returns-clause-first
returns-clause-first c = first-fits

pub returns-clause-cases : goal.returns-clause-cases
returns-clause-cases c = case-fits

pub returns-clause-every : goal.returns-clause-every
returns-clause-every c = every-fits
