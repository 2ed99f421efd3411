use Rattle.std.proofs.Common.{◌≡◌, ◌+◌, map, take}
use Rattle.std.specs.List.{flat_map}
use Rattle.sql_bind_meaning.specs.Sources.{bound_joined_to}
use Rattle.sql_engine_values.specs.Places.{picked}
use Rattle.sql_engine_joins.specs.Rows.{all_picked}
use Rattle.sql_engine_joins.proofs.joins.joined.Given as goal

abbrev pub invariant-loop-at : goal.invariant-loop-at
invariant-loop-at g l = record {
  width : l.joined.width ≡ l.lefts.width + 1;
  rows : all_picked l.sources l.joined ≡ flat_map (bound_joined_to l.sources.relations l.join) (map (picked l.sources) (take l.at l.lefts.rows));
}
