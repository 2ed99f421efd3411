use Rattle.layout_laws.proofs.Statistics.{one_told}
use Rattle.layout_laws.proofs.Told.{some_told}
use Rattle.layout_laws.proofs.changes_have_one_stats_text.Goals as goal

pub returns-clause-some : goal.returns-clause-some
returns-clause-some c = some_told

pub returns-clause-one : goal.returns-clause-one
returns-clause-one c = one_told
