use Rattle.sql_gen_filter_laws.proofs.Whole.{filter_means}
use Rattle.sql_gen_filter_laws.proofs.filters_keep_three_values.Goals as goal

pub returns : goal.returns
returns c = filter_means
