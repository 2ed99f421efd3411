use Rattle.layout_laws.proofs.Layouts.{one_chosen}
use Rattle.layout_laws.proofs.Existing.{some_chosen}
use Rattle.layout_laws.proofs.changes_have_one_layout.Goals as goal

pub returns-clause-some : goal.returns-clause-some
returns-clause-some c = some_chosen

pub returns-clause-one : goal.returns-clause-one
returns-clause-one c = one_chosen
