use Rattle.std.proofs.Common.{◌≡◌, take}
use Rattle.sql_bind_meaning.specs.Sources.{relation_rows, bound_where_true}
use Rattle.sql_engine_values.specs.Places.{picked}
use Rattle.sql_engine_joins.specs.Runs.{rows_beside, IsAdded}
use Rattle.sql_engine_joins.proofs.joins.add_some.Given as goal

abbrev pub invariant-loop-row : goal.invariant-loop-row
invariant-loop-row g l = record {
  added : IsAdded l.sources l.initial.into l.into (bound_where_true l.join.on (rows_beside (relation_rows l.sources.relations l.join.relation) (picked l.sources l.initial.left.items) (take l.row-index l.rows)));
  left : l.left.items ≡ l.initial.left.items;
}
