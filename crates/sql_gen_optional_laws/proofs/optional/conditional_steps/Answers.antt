use Rattle.sql_gen_optional_laws.specs.WholeOptional.{whole_optional}
use Rattle.sql_gen_optional_laws.proofs.optional.conditional_steps.Goals as goal

pub returns : goal.returns
returns c = whole_optional
