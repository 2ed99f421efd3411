use Rattle.std.proofs.Common.{◌≡◌}
use Rattle.std.specs.List.{filter}
use Rattle.sparql_variables.specs.Bits.{members}
use Rattle.sql_gen_filter_meaning.specs.ConditionVariables.{numbers_below}
use Rattle.sql_gen_filter_values.proofs.variables.condition_variables.Given as goal

-- the variables below this number that are in the set
abbrev pub invariant-loop-number : goal.invariant-loop-number
invariant-loop-number l = l.variables.items ≡ filter (members l.set) (numbers_below l.number)
