use Rattle.std.proofs.Common.{◌≡◌, ◌++◌, drop}
use Rattle.std.specs.List.{filter}
use Rattle.sparql_variables.specs.Bits.{members}
use Rattle.sql_gen_outs.proofs.variables.certain_own.Given as goal

-- all of them are those so far, and then those of the rest
abbrev pub invariant-loop-v : goal.invariant-loop-v
invariant-loop-v l = filter (members l.out.certain) l.out.variables ≡ l.certain ++ filter (members l.out.certain) (drop l.v-index l.out.variables)
