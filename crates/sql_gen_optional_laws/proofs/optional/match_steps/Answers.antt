use Rattle.sql_gen_optional_laws.specs.MatchStep.{match_step}
use Rattle.sql_gen_optional_laws.proofs.optional.match_steps.Goals as goal

pub returns : goal.returns
returns c = match_step
