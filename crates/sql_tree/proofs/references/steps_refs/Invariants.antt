use Rattle.std.proofs.Common.{◌≤◌, ◌^◌, ◌-◌, ◌≡◌, ◌+◌, drop}
use Rattle.std.specs.Prelude.{map}
use Rattle.sql_meaning.specs.Scripts.{total, up_to, step_refs}
use Rattle.sql_tree.proofs.references.steps_refs.Given as goal

abbrev pub invariant-loop-step : goal.invariant-loop-step
invariant-loop-step l = (l.refs ≤ 2 ^ 64 - 1) × (up_to 64 (total (map step_refs l.steps)) ≡ up_to 64 (l.refs + total (map step_refs (drop l.step-index l.steps))))
