use Rattle.sql_gen_numbered_meaning.proofs.StepNames.{names-apart}
use Rattle.sql_gen_numbered_meaning.proofs.steps.decimal_names_are_apart.Goals as goal

pub returns : goal.returns
returns c = names-apart
