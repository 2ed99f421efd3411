use Rattle.sql_gen_numbered_meaning.proofs.Written.{shifted-written}
use Rattle.sql_gen_numbered_meaning.proofs.steps.shifted_steps_are_steps_further_on.Goals as goal

pub returns : goal.returns
returns c = shifted-written
