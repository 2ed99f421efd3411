use Rattle.sql_gen_optional_laws.specs.OptionalStep.{optional_step}
use Rattle.sql_gen_optional_laws.proofs.optional.optional_steps.Goals as goal

pub returns : goal.returns
returns c = optional_step
