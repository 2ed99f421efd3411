use Rattle.line_change_laws.proofs.Present.{adds_present}
use Rattle.line_change_laws.proofs.added.Goals as goal

pub returns : goal.returns
returns c = adds_present
