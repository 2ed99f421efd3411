use Rattle.std.proofs.Common.{◌≡◌, max, drop}
use Rattle.std.specs.Prelude.{map}
use Rattle.sql_meaning.specs.Scripts.{largest, up_to, join_depth}
use Rattle.sql_tree.proofs.levels.joins_depth.Given as goal

abbrev pub invariant-loop-join : goal.invariant-loop-join
invariant-loop-join l = up_to 32 (largest (map join_depth l.joins)) ≡ max l.deepest (up_to 32 (largest (map join_depth (drop l.join-index l.joins))))
