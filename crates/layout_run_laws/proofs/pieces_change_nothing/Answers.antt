use Rattle.layout_run_laws.proofs.Runs.{runs-together, runs-above}
use Rattle.layout_run_laws.proofs.Cuts.{sorted-runs, cuts-whole, pieces-same}
use Rattle.layout_run_laws.proofs.pieces_change_nothing.Goals as goal

pub returns-clause-together : goal.returns-clause-together
returns-clause-together c = runs-together

pub returns-clause-above : goal.returns-clause-above
returns-clause-above c = runs-above

pub returns-clause-runs : goal.returns-clause-runs
returns-clause-runs c = sorted-runs

pub returns-clause-whole : goal.returns-clause-whole
returns-clause-whole c = cuts-whole

pub returns-clause-same : goal.returns-clause-same
returns-clause-same c = pieces-same
