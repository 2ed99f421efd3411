use Rattle.query_star_laws.specs.Merging.{leaf-merge}
use Rattle.query_star_laws.proofs.merging.required_arms_merge.Goals as goal

pub returns : goal.returns
returns c = leaf-merge
