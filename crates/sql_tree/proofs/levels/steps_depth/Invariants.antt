use Rattle.std.proofs.Common.{◌≡◌, max, drop}
use Rattle.std.specs.Prelude.{map}
use Rattle.sql_meaning.specs.Scripts.{largest, up_to, step_depth}
use Rattle.sql_tree.proofs.levels.steps_depth.Given as goal

abbrev pub invariant-loop-step : goal.invariant-loop-step
invariant-loop-step l = up_to 32 (largest (map step_depth l.steps)) ≡ max l.deepest (up_to 32 (largest (map step_depth (drop l.step-index l.steps))))
