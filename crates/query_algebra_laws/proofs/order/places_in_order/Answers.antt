use Rattle.rdf_value_meaning.specs.OrderLaws.{place_order_total, place_order_ties}
use Rattle.query_algebra_laws.proofs.order.places_in_order.Goals as goal

pub returns-clause-total : goal.returns-clause-total
returns-clause-total c = place_order_total

pub returns-clause-ties : goal.returns-clause-ties
returns-clause-ties c = place_order_ties
