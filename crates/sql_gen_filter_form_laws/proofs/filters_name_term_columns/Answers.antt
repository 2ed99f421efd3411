use Rattle.sql_gen_filter_form_laws.proofs.Columns.{columns_hold}
use Rattle.sql_gen_filter_form_laws.proofs.Whole.{filter_holds}
use Rattle.sql_gen_filter_form_laws.proofs.filters_name_term_columns.Goals as goal

pub returns : goal.returns
returns c us e h = filter_holds (columns_hold us) e h
