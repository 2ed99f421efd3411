use Rattle.line_change_laws.proofs.Present.{present_members, present_once}
use Rattle.line_change_laws.proofs.members.Goals as goal

pub returns-clause-all : goal.returns-clause-all
returns-clause-all c = present_members

pub returns-clause-once : goal.returns-clause-once
returns-clause-once c = present_once
