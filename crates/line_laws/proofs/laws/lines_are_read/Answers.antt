use Rattle.line_laws.proofs.LinesRead.{sound}
use Rattle.line_laws.proofs.LinesBack.{complete}
use Rattle.line_laws.proofs.ChangesRead.{changes_read, refusals_first}
use Rattle.line_laws.proofs.laws.lines_are_read.Goals as goal

pub returns-clause-sound : goal.returns-clause-sound
returns-clause-sound c = sound

pub returns-clause-complete : goal.returns-clause-complete
returns-clause-complete c = complete

pub returns-clause-changes : goal.returns-clause-changes
returns-clause-changes c = changes_read

pub returns-clause-refusals : goal.returns-clause-refusals
returns-clause-refusals c = refusals_first
