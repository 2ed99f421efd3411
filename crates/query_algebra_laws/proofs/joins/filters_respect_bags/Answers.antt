use Rattle.bags.specs.BagLaws.{same-filter}
use Rattle.query_algebra_laws.proofs.joins.filters_respect_bags.Goals as goal

pub returns : goal.returns
returns c = (λ passes ls ms s. same-filter passes ls ms s)
