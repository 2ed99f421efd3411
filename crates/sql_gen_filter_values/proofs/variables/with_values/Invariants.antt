use Rattle.std.proofs.Common.{◌≡◌, ◌||◌, ℕ, take}
use Rattle.std.specs.List.{list_any}
use Rattle.sparql_variables.specs.Bits.{members}
use Rattle.sql_gen_filter_meaning.specs.ConditionVariables.{value_variables}
use Rattle.sql_gen_filter_values.proofs.variables.with_values.Given as goal

-- the set has the variables of the values so far
abbrev pub invariant-loop-e : goal.invariant-loop-e
invariant-loop-e l = (w : ℕ) → members l.set w ≡ (members l.initial.set w || list_any (λ e. value_variables e w) (take l.e-index l.es))
