use Rattle.std.proofs.Common.{◌≡◌, ◌++◌, map, drop}
use Rattle.sql_gen_step_laws.specs.StepSelects.{shared, shared_sql}
use Rattle.sql_gen_steps.proofs.exprs.shared_tests.Given as goal

-- all tests are those so far, and then those of the rest
abbrev pub invariant-loop-v : goal.invariant-loop-v
invariant-loop-v l = map (shared_sql l.certain) (shared l.left l.right) ≡ l.tests ++ map (shared_sql l.certain) (shared l.left (drop l.v-index l.right))
