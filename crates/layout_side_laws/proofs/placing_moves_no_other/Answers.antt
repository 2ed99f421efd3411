use Rattle.layout_side_laws.proofs.Sides.{other-placed, stays-placed}
use Rattle.layout_side_laws.proofs.placing_moves_no_other.Goals as goal

pub returns-clause-entities : goal.returns-clause-entities
returns-clause-entities c = other-placed

pub returns-clause-pairs : goal.returns-clause-pairs
returns-clause-pairs c = stays-placed
