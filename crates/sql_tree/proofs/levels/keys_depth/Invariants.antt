use Rattle.std.proofs.Common.{◌≡◌, max, drop}
use Rattle.std.specs.Prelude.{map}
use Rattle.sql_meaning.specs.Scripts.{largest, up_to, key_depth}
use Rattle.sql_tree.proofs.levels.keys_depth.Given as goal

abbrev pub invariant-loop-key : goal.invariant-loop-key
invariant-loop-key l = up_to 32 (largest (map key_depth l.keys)) ≡ max l.deepest (up_to 32 (largest (map key_depth (drop l.key-index l.keys))))
