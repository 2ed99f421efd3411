use Rattle.layout_laws.proofs.Layouts.{one_layout}
use Rattle.layout_laws.proofs.Existing.{some_layout}
use Rattle.layout_laws.proofs.a_bulk_has_one_layout.Goals as goal

pub returns-clause-some : goal.returns-clause-some
returns-clause-some c = some_layout

pub returns-clause-one : goal.returns-clause-one
returns-clause-one c = one_layout
