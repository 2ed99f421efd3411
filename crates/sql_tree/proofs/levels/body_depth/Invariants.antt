use Rattle.std.proofs.Common.{◌≡◌, max, drop}
use Rattle.std.specs.Prelude.{map}
use Rattle.sql_meaning.specs.Scripts.{largest, up_to, core_depth}
use Rattle.sql_tree.proofs.levels.body_depth.Given as goal

abbrev pub invariant-loop-core : goal.invariant-loop-core
invariant-loop-core l = up_to 32 (largest (map core_depth l.core-items)) ≡ max l.deepest (up_to 32 (largest (map core_depth (drop l.core-index l.core-items))))
