use Rattle.query_eval_meaning.specs.Expressions.{truth_over}
use Rattle.sql_gen_term_laws.specs.FilterStep.{filter_step}
use Rattle.sql_gen_filter_meaning.specs.Filters.{filter_sql}
use Rattle.sql_gen_filter_laws.proofs.Whole.{filter_means}
use Rattle.sql_gen_filter_laws.proofs.filters_select.Goals as goal

pub returns : goal.returns
returns c ids known relations a terms st vs us ms s e h =
    filter_step ids known relations a terms st vs us ms s (filter_sql e) (truth_over e) (filter_means us e h)
