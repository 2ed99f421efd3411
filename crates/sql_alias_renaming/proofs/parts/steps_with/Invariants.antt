use Rattle.std.proofs.Common.{◌≡◌, ◌++◌, drop}
use Rattle.std.specs.Vec.Iter.{into_iter_items}
use Rattle.sql_alias_renaming.specs.Parts.{steps_with}
use Rattle.sql_alias_renaming.proofs.parts.steps_with.Given as goal

-- what is made in all is what is made so far, and then what is made of the rest
abbrev pub invariant-loop-step : goal.invariant-loop-step
invariant-loop-step l = steps_with l.steps l.fn.bodies.items ≡ l.made ++ steps_with (drop l.step-index l.steps) (into_iter_items l.bodies)
