use Rattle.std.proofs.Common.{drop}
use Rattle.sql_bind.specs.Parts.{AreBoundUpTo}
use Rattle.sql_bind.proofs.scripts.bind_steps.Given as goal

abbrev pub invariant-loop-step : goal.invariant-loop-step
invariant-loop-step l = AreBoundUpTo l.schemas l.steps l.known l.next l.bodies (drop l.step-index l.steps)
