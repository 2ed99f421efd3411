use Rattle.query_star_laws.specs.Merging.{union-merge}
use Rattle.query_star_laws.proofs.merging.unions_merge.Goals as goal

pub returns : goal.returns
returns c = union-merge
