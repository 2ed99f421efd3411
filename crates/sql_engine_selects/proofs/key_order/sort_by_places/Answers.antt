use Rattle.std.proofs.Common.{rules}
use Rattle.list_steps.specs.SortedByCalls.{sorted_by_calls}
use Rattle.sql_engine_selects.specs.Numbered.{number_order}
use Rattle.sql_engine_selects.proofs.Ordered.{number_order_total}
use Rattle.sql_engine_selects.proofs.key_order.sort_by_places.Goals as goal

pub returns : goal.returns
returns g c =
    let s = c.args.sources.now in
    let p = c.args.rows.now in
    sorted_by_calls (number_order s p c.args.keys.now) (number_order_total s p c.args.keys.now) _ _ c.in_ok-sort_by.ensures.sorted c.in_ok-sort_by.ensures.stable (λ a r q k. search rules)
