use Rattle.std.proofs.Common.{◌≡◌, ◌++◌, map, drop}
use Rattle.sql_gen_optional_laws.specs.MatchRows.{kept_sql}
use Rattle.sql_gen_steps.proofs.optional.kept_tests.Given as goal

-- all tests are those so far, and then those of the rest
abbrev pub invariant-loop-v : goal.invariant-loop-v
invariant-loop-v l = map (kept_sql l.certain) l.variables ≡ l.tests ++ map (kept_sql l.certain) (drop l.v-index l.variables)
