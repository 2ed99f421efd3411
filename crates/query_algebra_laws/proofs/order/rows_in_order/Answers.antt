use Rattle.query_algebra_laws.specs.OrderedAnswer.{row_order_total, row_order_ties}
use Rattle.query_algebra_laws.proofs.order.rows_in_order.Goals as goal

pub returns-clause-total : goal.returns-clause-total
returns-clause-total c = row_order_total

pub returns-clause-ties : goal.returns-clause-ties
returns-clause-ties c = row_order_ties
