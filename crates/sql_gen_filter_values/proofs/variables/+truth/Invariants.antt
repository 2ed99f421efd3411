use Rattle.std.proofs.Common.{◌≡◌, ◌||◌, ℕ, take}
use Rattle.std.specs.List.{list_any}
use Rattle.sparql_variables.specs.Bits.{members}
use Rattle.sql_gen_filter_meaning.specs.ConditionVariables.{truth_variables}
use Rattle.sql_gen_filter_values.proofs.variables.+truth.Given as goal

-- the set has the variables of the expressions so far
abbrev pub invariant-with_truths-loop-e : goal.invariant-with_truths-loop-e
invariant-with_truths-loop-e l = (w : ℕ) → members l.set w ≡ (members l.initial.set w || list_any (λ e. truth_variables e w) (take l.e-index l.es))
