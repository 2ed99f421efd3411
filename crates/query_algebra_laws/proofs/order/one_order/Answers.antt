use Rattle.query_algebra_laws.specs.OrderedAnswer.{order-same}
use Rattle.query_algebra_laws.proofs.order.one_order.Goals as goal

pub returns : goal.returns
returns c = order-same
