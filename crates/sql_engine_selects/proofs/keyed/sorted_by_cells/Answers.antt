use Rattle.std.proofs.Common.{map, ap, ◌∙◌}
use Rattle.sql_engine_selects.specs.KeyedRows.{row_of}
use Rattle.sql_engine_selects.proofs.Ordered.{sorted_keyed}
use Rattle.sql_engine_selects.proofs.keyed.sorted_by_cells.Goals as goal

pub returns : goal.returns
returns g c =
    sorted_keyed c.args.sources.now c.args.rows.now c.args.keys.now c.args.order.now _ _ _ c.in_ok-keyed.ensures c.in_ok-sort_keyed.ensures (c.in_ok-sorted.ensures ∙ ap (map row_of) c.deref.ensures.value)
