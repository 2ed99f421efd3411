use Rattle.layout_side_laws.proofs.Sides.{other-taken, stays-taken, only-taken}
use Rattle.layout_side_laws.proofs.taking_moves_no_other.Goals as goal

pub returns-clause-entities : goal.returns-clause-entities
returns-clause-entities c = other-taken

pub returns-clause-further : goal.returns-clause-further
returns-clause-further c = stays-taken

pub returns-clause-only : goal.returns-clause-only
returns-clause-only c = only-taken
