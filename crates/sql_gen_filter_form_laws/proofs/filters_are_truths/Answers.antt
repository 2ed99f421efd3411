use Rattle.sql_gen_filter_form_laws.proofs.TruthKinds.{kinds_hold}
use Rattle.sql_gen_filter_form_laws.proofs.Whole.{filter_holds}
use Rattle.sql_gen_filter_form_laws.proofs.filters_are_truths.Goals as goal

pub returns : goal.returns
returns c us e h s seen = filter_holds (kinds_hold us s seen) e h
