use Rattle.layout_side_laws.proofs.Sides.{stands-placed}
use Rattle.layout_side_laws.proofs.new_pairs_stand_first.Goals as goal

pub returns : goal.returns
returns c = stands-placed
