use Rattle.std.proofs.Common.{◌≡◌, ◌++◌, drop}
use Rattle.std.specs.List.{filter}
use Rattle.sparql_variables.specs.Bits.{members}
use Rattle.sql_gen_scripts.proofs.scripts.members.Given as goal

-- all of them are those so far, and then those of the rest
abbrev pub invariant-loop-v : goal.invariant-loop-v
invariant-loop-v l = filter (members l.set) l.variables ≡ l.kept ++ filter (members l.set) (drop l.v-index l.variables)
