use Rattle.std.proofs.Common.{◌≡◌, ◌++◌, map, drop}
use Rattle.sql_gen_matched_laws.specs.PassedSelect.{still_item}
use Rattle.sql_gen_steps.proofs.optional.push_still.Given as goal

-- all columns are those so far, and then those of the rest
abbrev pub invariant-loop-v : goal.invariant-loop-v
invariant-loop-v l = l.fn.items ++ map still_item l.variables ≡ l.items ++ map still_item (drop l.v-index l.variables)
