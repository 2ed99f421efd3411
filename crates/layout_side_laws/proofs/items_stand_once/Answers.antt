use Rattle.layout_side_laws.proofs.Items.{each-once, held-among}
use Rattle.layout_side_laws.proofs.items_stand_once.Goals as goal

pub returns-clause-once : goal.returns-clause-once
returns-clause-once c = each-once

pub returns-clause-held : goal.returns-clause-held
returns-clause-held c = held-among
