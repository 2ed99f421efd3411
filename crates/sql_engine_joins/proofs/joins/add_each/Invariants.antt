use Rattle.std.proofs.Common.{◌≡◌}
use Rattle.std.specs.List.{range_with_len}
use Rattle.sql_bind_meaning.specs.Sources.{relation_rows, bound_where_true}
use Rattle.sql_engine_values.specs.Places.{picked}
use Rattle.sql_engine_joins.specs.Runs.{rows_beside, IsAdded}
use Rattle.sql_engine_joins.proofs.joins.add_each.Given as goal

abbrev pub invariant-loop-row : goal.invariant-loop-row
invariant-loop-row g l = record {
  added : IsAdded l.sources l.initial.into l.into (bound_where_true l.join.on (rows_beside (relation_rows l.sources.relations l.join.relation) (picked l.sources l.initial.left.items) (range_with_len 0 l.row)));
  left : l.left.items ≡ l.initial.left.items;
}
