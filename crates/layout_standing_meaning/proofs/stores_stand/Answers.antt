use Rattle.layout_standing_meaning.proofs.Stands.{stands}
use Rattle.layout_standing_meaning.proofs.stores_stand.Goals as goal

pub returns : goal.returns
returns c = stands
