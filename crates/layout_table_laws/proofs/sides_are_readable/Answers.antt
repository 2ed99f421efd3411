use Rattle.layout_table_laws.proofs.Readable.{readable}
use Rattle.layout_table_laws.proofs.sides_are_readable.Goals as goal

pub returns : goal.returns
returns c = readable
