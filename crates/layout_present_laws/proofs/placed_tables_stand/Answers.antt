use Rattle.layout_present_laws.proofs.Stand.{placed-good, placed-stands, chosen-stands}
use Rattle.layout_present_laws.proofs.placed_tables_stand.Goals as goal

pub returns-clause-store : goal.returns-clause-store
returns-clause-store c = placed-good

pub returns-clause-any : goal.returns-clause-any
returns-clause-any c = placed-stands

pub returns-clause-chosen : goal.returns-clause-chosen
returns-clause-chosen c = chosen-stands
