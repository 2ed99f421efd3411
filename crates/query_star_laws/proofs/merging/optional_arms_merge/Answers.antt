use Rattle.query_star_laws.specs.Merging.{leaf-optional}
use Rattle.query_star_laws.proofs.merging.optional_arms_merge.Goals as goal

pub returns : goal.returns
returns c = leaf-optional
