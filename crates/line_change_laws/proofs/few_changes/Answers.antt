use Rattle.line_change_laws.proofs.Counts.{few}
use Rattle.line_change_laws.proofs.few_changes.Goals as goal

pub returns : goal.returns
returns c = few
