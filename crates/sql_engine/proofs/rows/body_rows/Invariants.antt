use Rattle.std.proofs.Common.{◌≡◌, take}
use Rattle.std.specs.List.{flat_map}
use Rattle.sql_bind_meaning.specs.Selects.{bound_select_rows}
use Rattle.sql_engine.proofs.rows.body_rows.Given as goal

abbrev pub invariant-loop-core : goal.invariant-loop-core
invariant-loop-core g l = record {
  rows : l.rows.items ≡ flat_map (bound_select_rows l.initial.relations) (take l.core-index l.core-items);
  kept : l.relations ≡ l.initial.relations;
}
