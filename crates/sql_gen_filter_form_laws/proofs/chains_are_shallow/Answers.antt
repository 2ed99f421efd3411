use Rattle.sql_gen_filter_form_laws.proofs.Forms.{forms_hold}
use Rattle.sql_gen_filter_form_laws.proofs.Whole.{value_holds}
use Rattle.sql_gen_filter_form_laws.proofs.chains_are_shallow.Goals as goal

pub returns-clause-class : goal.returns-clause-class
returns-clause-class c e h = (value_holds forms_hold e h).class

pub returns-clause-number : goal.returns-clause-number
returns-clause-number c e h = (value_holds forms_hold e h).number

pub returns-clause-text : goal.returns-clause-text
returns-clause-text c e h = (value_holds forms_hold e h).text

pub returns-clause-aux : goal.returns-clause-aux
returns-clause-aux c e h = (value_holds forms_hold e h).aux
