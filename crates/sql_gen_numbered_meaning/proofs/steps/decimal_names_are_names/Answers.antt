use Rattle.sql_gen_numbered_meaning.proofs.StepNames.{names-are_names}
use Rattle.sql_gen_numbered_meaning.proofs.steps.decimal_names_are_names.Goals as goal

pub returns : goal.returns
returns c = names-are_names
