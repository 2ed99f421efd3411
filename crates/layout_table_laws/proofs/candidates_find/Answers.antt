use Rattle.layout_table_laws.proofs.Candidates.{finds}
use Rattle.layout_table_laws.proofs.candidates_find.Goals as goal

pub returns : goal.returns
returns c = finds
