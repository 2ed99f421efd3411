use Rattle.std.proofs.Common.{rules}
use Rattle.list_steps.specs.SortedByCalls.{sorted_by_calls}
use Rattle.sql_engine_selects.specs.KeyedRows.{keyed_order}
use Rattle.sql_engine_selects.proofs.Ordered.{keyed_order_total}
use Rattle.sql_engine_selects.proofs.keyed.sort_keyed.Goals as goal

pub returns : goal.returns
returns c = sorted_by_calls (keyed_order c.args.keys.now) (keyed_order_total c.args.keys.now) _ _ c.in_ok-sort_by.ensures.sorted c.in_ok-sort_by.ensures.stable (λ a r q k. search rules)
