use Rattle.layout_standing_meaning.proofs.Steps.{placed-back}
use Rattle.layout_side_laws.proofs.taken_back.Goals as goal

pub returns : goal.returns
returns c = placed-back
