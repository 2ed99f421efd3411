use Rattle.std.proofs.Common.{◌≡◌, max, drop}
use Rattle.std.specs.Prelude.{map}
use Rattle.sql_meaning.specs.Scripts.{largest, up_to, item_depth}
use Rattle.sql_tree.proofs.levels.items_depth.Given as goal

abbrev pub invariant-loop-item : goal.invariant-loop-item
invariant-loop-item l = up_to 32 (largest (map item_depth l.items)) ≡ max l.deepest (up_to 32 (largest (map item_depth (drop l.item-index l.items))))
