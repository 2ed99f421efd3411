use Rattle.std.proofs.Common.{◌≡◌, ◌++◌, true, false, if◌then◌else◌, drop}
use Rattle.std.specs.List.{filter}
use Rattle.sql_gen_step_laws.specs.StepSelects.{has, both}
use Rattle.sql_gen_steps.proofs.variables.both.Given as goal

-- all variables are those so far, and then those of the rest that the left side lacks
abbrev pub invariant-loop-v : goal.invariant-loop-v
invariant-loop-v l = both l.left l.right ≡ l.all.items ++ filter (λ w. if has l.left w then false else true) (drop l.v-index l.right)
