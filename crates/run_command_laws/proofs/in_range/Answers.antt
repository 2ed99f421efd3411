use Rattle.run_command_laws.proofs.InRange.{in-range}
use Rattle.run_command_laws.proofs.in_range.Goals as goal

pub returns : goal.returns
returns c = in-range
