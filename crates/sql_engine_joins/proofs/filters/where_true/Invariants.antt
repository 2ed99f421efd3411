use Rattle.std.proofs.Common.{◌≡◌, map, take}
use Rattle.sql_bind_meaning.specs.Sources.{bound_where_true}
use Rattle.sql_engine_values.specs.Places.{picked}
use Rattle.sql_engine_joins.specs.Rows.{all_picked}
use Rattle.sql_engine_joins.proofs.filters.where_true.Given as goal

abbrev pub invariant-loop-at : goal.invariant-loop-at
invariant-loop-at g l = record {
  width : l.kept.width ≡ l.rows.width;
  rows : all_picked l.sources l.kept ≡ bound_where_true l.condition (map (picked l.sources) (take l.at l.rows.rows));
}
