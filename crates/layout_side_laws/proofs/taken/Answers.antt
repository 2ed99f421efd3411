use Rattle.layout_meaning.proofs.Names.{keeps-taken_from}
use Rattle.layout_standing_meaning.proofs.Steps.{good-taken}
use Rattle.layout_side_laws.proofs.Items.{taken-absent, taken-items}
use Rattle.layout_side_laws.proofs.taken.Goals as goal

pub returns-clause-side : goal.returns-clause-side
returns-clause-side c = good-taken

pub returns-clause-items : goal.returns-clause-items
returns-clause-items c = taken-items

pub returns-clause-absent : goal.returns-clause-absent
returns-clause-absent c = taken-absent

pub returns-clause-columns : goal.returns-clause-columns
returns-clause-columns c = keeps-taken_from
