use Rattle.sparql_modifiers.specs.OrderSteps.{order_later_stops}
use Rattle.sparql_modifiers.proofs.order.read_order.Goals as goal

pub returns-in-Err-read_key-clause-refuses : goal.returns-in-Err-read_key-clause-refuses
returns-in-Err-read_key-clause-refuses c = order_later_stops _ _ _ _ (c.key_ahead.ensures.yes c.keys-test.true) c.keys.invariant.0 c.in-Err-read_key.ensures.refuses
