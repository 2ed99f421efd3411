use Rattle.std.proofs.Common.{◌≡◌, ◌++◌, drop}
use Rattle.sql_gen_term_laws.specs.TermTable.{own_test, term_joins}
use Rattle.sql_gen_steps.proofs.filters.term_joins.Given as goal

-- all joins are those so far, and then those of the rest
abbrev pub invariant-loop-v : goal.invariant-loop-v
invariant-loop-v l = term_joins l.terms (own_test l.variables) l.asked ≡ l.joins ++ term_joins l.terms (own_test l.variables) (drop l.v-index l.asked)
