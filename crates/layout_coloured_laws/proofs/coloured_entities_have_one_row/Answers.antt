use Rattle.layout_coloured_laws.proofs.Known.{one_row}
use Rattle.layout_coloured_laws.proofs.coloured_entities_have_one_row.Goals as goal

pub returns : goal.returns
returns c = one_row
