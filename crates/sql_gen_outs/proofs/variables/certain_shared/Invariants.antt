use Rattle.std.proofs.Common.{◌≡◌, ◌++◌, drop}
use Rattle.std.specs.List.{filter}
use Rattle.query_eval_meaning.specs.Variables.{in_both}
use Rattle.sparql_variables.specs.Bits.{members}
use Rattle.sql_gen_step_laws.specs.StepSelects.{shared}
use Rattle.sql_gen_outs.proofs.variables.certain_shared.Given as goal

-- all of them are those so far, and then those of the rest
abbrev pub invariant-loop-v : goal.invariant-loop-v
invariant-loop-v l =
    filter (in_both (members l.first.certain) (members l.second.certain)) (shared l.first.variables l.second.variables)
    ≡ l.certain ++ filter (in_both (members l.first.certain) (members l.second.certain)) (shared l.first.variables (drop l.v-index l.second.variables))
