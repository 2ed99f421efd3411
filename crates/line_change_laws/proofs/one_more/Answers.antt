use Rattle.line_change_laws.proofs.Present.{present_added, present_deleted}
use Rattle.line_change_laws.proofs.one_more.Goals as goal

pub returns-clause-added : goal.returns-clause-added
returns-clause-added c = present_added

pub returns-clause-deleted : goal.returns-clause-deleted
returns-clause-deleted c = present_deleted
