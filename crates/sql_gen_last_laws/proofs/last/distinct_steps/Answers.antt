use Rattle.sql_gen_last_laws.proofs.DistinctRows.{distinct-step}
use Rattle.sql_gen_last_laws.proofs.last.distinct_steps.Goals as goal

pub returns : goal.returns
returns c = distinct-step
