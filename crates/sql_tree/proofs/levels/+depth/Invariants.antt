use Rattle.sql_tree.specs.Depths.{branch_depth}
use Rattle.std.proofs.Common.{◌≡◌, max, drop}
use Rattle.std.specs.Prelude.{map}
use Rattle.sql_meaning.specs.Scripts.{largest, up_to, expr_depth}
use Rattle.sql_tree.proofs.levels.+depth.Given as goal

abbrev pub invariant-parts_depth-loop-part : goal.invariant-parts_depth-loop-part
invariant-parts_depth-loop-part l = up_to 32 (largest (map expr_depth l.parts)) ≡ max l.deepest (up_to 32 (largest (map expr_depth (drop l.part-index l.parts))))

abbrev pub invariant-branches_depth-loop-branch : goal.invariant-branches_depth-loop-branch
invariant-branches_depth-loop-branch l = up_to 32 (largest (map branch_depth l.branches)) ≡ max l.deepest (up_to 32 (largest (map branch_depth (drop l.branch-index l.branches))))
