use Rattle.rdf_value_meaning.specs.OrderLaws.{term_order_total, term_order_ties}
use Rattle.query_algebra_laws.proofs.order.terms_in_order.Goals as goal

pub returns-clause-total : goal.returns-clause-total
returns-clause-total c = term_order_total

pub returns-clause-ties : goal.returns-clause-ties
returns-clause-ties c = term_order_ties
