use Rattle.std.proofs.Common.{◌≡◌, max, drop}
use Rattle.sql_meaning.specs.Scripts.{largest, up_to}
use Rattle.tree_visitors.proofs.shape.deepest.Given as goal

abbrev pub invariant-loop-depth : goal.invariant-loop-depth
invariant-loop-depth l = up_to 32 (largest l.depths) ≡ max l.deepest (up_to 32 (largest (drop l.depth-index l.depths)))
