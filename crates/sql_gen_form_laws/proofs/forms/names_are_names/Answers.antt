use Rattle.sql_gen_form_laws.proofs.Names.{column-name, kept-name, term-name}
use Rattle.sql_gen_form_laws.proofs.forms.names_are_names.Goals as goal

pub returns-clause-column : goal.returns-clause-column
returns-clause-column c = column-name

pub returns-clause-kept : goal.returns-clause-kept
returns-clause-kept c = kept-name

pub returns-clause-term : goal.returns-clause-term
returns-clause-term c = term-name
