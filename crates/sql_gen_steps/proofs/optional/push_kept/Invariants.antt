use Rattle.std.proofs.Common.{◌≡◌, ◌++◌, map, drop}
use Rattle.sql_gen_optional_laws.specs.MatchRows.{kept_item}
use Rattle.sql_gen_steps.proofs.optional.push_kept.Given as goal

-- all columns are those so far, and then those of the rest
abbrev pub invariant-loop-v : goal.invariant-loop-v
invariant-loop-v l = l.fn.items ++ map kept_item l.variables ≡ l.items ++ map kept_item (drop l.v-index l.variables)
