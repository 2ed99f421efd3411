use Rattle.std.proofs.Common.{◌≡◌, ◌≤◌, ◌+◌}
use Rattle.sql_engine_joins.proofs.indexes.keep_indexes.Given as goal

abbrev pub invariant-loop-join : goal.invariant-loop-join
invariant-loop-join g l = record {
  relations : l.relations ≡ l.initial.relations;
  new : l.new ≤ 1 + l.join-index;
}
