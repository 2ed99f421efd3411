use Rattle.std.proofs.Common.{◌≡◌, ◌++◌, length}
use Rattle.sql_gen_last_laws.specs.LastSelect.{once}
use Rattle.sql_gen_last.proofs.keys.once.Given as goal

-- all are those so far, and then those of the rest
abbrev pub invariant-variables : goal.invariant-variables
invariant-variables l = once l.variables ≡ l.kept.items ++ once l.rest

abbrev pub decreases-variables : goal.decreases-variables
decreases-variables l = length l.rest
