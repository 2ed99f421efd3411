use Rattle.line_laws.proofs.Labels.{legal, apart}
use Rattle.line_laws.proofs.laws.labels_are_kept_apart.Goals as goal

pub returns-clause-legal : goal.returns-clause-legal
returns-clause-legal c = legal

pub returns-clause-apart : goal.returns-clause-apart
returns-clause-apart c = apart
