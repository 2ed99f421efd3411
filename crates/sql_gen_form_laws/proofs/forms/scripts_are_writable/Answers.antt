use Rattle.sql_gen_form_laws.proofs.Bodies.{step-fits, script-writable}
use Rattle.sql_gen_form_laws.proofs.forms.scripts_are_writable.Goals as goal

pub returns-clause-step : goal.returns-clause-step
returns-clause-step c = step-fits

pub returns-clause-script : goal.returns-clause-script
returns-clause-script c = script-writable
