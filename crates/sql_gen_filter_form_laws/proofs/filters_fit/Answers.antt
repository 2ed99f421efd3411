use Rattle.sql_gen_filter_form_laws.proofs.Forms.{forms_hold}
use Rattle.sql_gen_filter_form_laws.proofs.Whole.{filter_holds}
use Rattle.sql_gen_filter_form_laws.proofs.filters_fit.Goals as goal

pub returns : goal.returns
returns c e h = filter_holds forms_hold e h
