use Rattle.bags.specs.BagLaws.{same-append}
use Rattle.query_algebra_laws.proofs.joins.unions_respect_bags.Goals as goal

pub returns : goal.returns
returns c = (λ ls ms rs ns s t. same-append ls ms rs ns s t)
