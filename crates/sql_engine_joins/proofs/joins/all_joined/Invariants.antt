use Rattle.std.proofs.Common.{◌≡◌, ◌+◌, drop}
use Rattle.sql_bind_meaning.specs.Sources.{bound_all_joined}
use Rattle.sql_engine_values.specs.Places.{join_numbers}
use Rattle.sql_engine_joins.specs.Rows.{all_picked}
use Rattle.sql_engine_joins.proofs.joins.all_joined.Given as goal

abbrev pub invariant-loop-join : goal.invariant-loop-join
invariant-loop-join g l = record {
  width : l.rows.width ≡ l.fn.first.width + l.join-index;
  rows : bound_all_joined l.sources.relations l.joins (all_picked l.sources l.fn.first) ≡ bound_all_joined l.sources.relations (drop l.join-index l.joins) (all_picked l.sources l.rows);
  sources : drop l.rows.width l.sources.numbers ≡ join_numbers (drop l.join-index l.joins);
}
