use Rattle.std.proofs.Common.{◌≡◌, ◌++◌, length}
use Rattle.std.specs.Vec.Iter.{into_iter_items}
use Rattle.sql_gen_numbered_meaning.specs.Numbered.{written, written_from}
use Rattle.sql_gen_numbered_meaning.specs.Namings.{step_name}
use Rattle.sql_gen_scripts.specs.Arms.{HaveNamedArms}
use Rattle.sql_gen_scripts.proofs.written.steps.Given as goal

-- all steps are those so far, and then those of the rest, numbered on
abbrev pub invariant-loop-step : goal.invariant-loop-step
invariant-loop-step l =
    (written step_name l.fn.bodies.items ≡ l.steps ++ written_from step_name (length l.steps) (into_iter_items l.step-iterator))
    × HaveNamedArms (into_iter_items l.step-iterator)
