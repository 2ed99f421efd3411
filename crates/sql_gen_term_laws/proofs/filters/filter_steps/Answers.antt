use Rattle.sql_gen_term_laws.specs.FilterStep.{filter_step}
use Rattle.sql_gen_term_laws.proofs.filters.filter_steps.Goals as goal

pub returns : goal.returns
returns c = filter_step
