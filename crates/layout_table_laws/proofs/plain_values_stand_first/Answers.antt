use Rattle.layout_table_laws.proofs.First.{first}
use Rattle.layout_table_laws.proofs.plain_values_stand_first.Goals as goal

pub returns : goal.returns
returns c = first
