use Rattle.layout_table_laws.proofs.Once.{held-distinct}
use Rattle.layout_table_laws.proofs.values_stand_once.Goals as goal

pub returns : goal.returns
returns c = held-distinct
