use Rattle.layout_laws.proofs.Statistics.{one_statistics}
use Rattle.layout_laws.proofs.tables_have_one_count.Goals as goal

pub returns : goal.returns
returns c = one_statistics
