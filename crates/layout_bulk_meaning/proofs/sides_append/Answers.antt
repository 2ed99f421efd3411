use Rattle.layout_bulk_meaning.proofs.Sides.{sound-appended, items-appended, keeps-appended}
use Rattle.layout_bulk_meaning.proofs.sides_append.Goals as goal

pub returns-clause-sound : goal.returns-clause-sound
returns-clause-sound c = sound-appended

pub returns-clause-items : goal.returns-clause-items
returns-clause-items c = items-appended

pub returns-clause-keeps : goal.returns-clause-keeps
returns-clause-keeps c = keeps-appended
