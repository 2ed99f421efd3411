use Rattle.std.proofs.Common.{◌<◌, length}
use Rattle.sql_text_script_laws.specs.Steps.{StepLoop}
use Rattle.sql_text.proofs.script.read_steps.Given as goal

abbrev pub invariant-loop-after : goal.invariant-loop-after
invariant-loop-after l = StepLoop l.fn.tokens l.steps l.rest × (length l.rest < length l.fn.tokens)

abbrev pub decreases-loop-after : goal.decreases-loop-after
decreases-loop-after l = length l.rest
