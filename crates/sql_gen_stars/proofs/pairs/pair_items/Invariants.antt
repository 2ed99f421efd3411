use Rattle.std.proofs.Common.{◌≡◌, ◌++◌, ◌∷◌, map, drop}
use Rattle.sql_gen_step_laws.specs.StepSelects.{one_item, variable_item}
use Rattle.sql_gen_star_meaning.specs.PairSelects.{pair_sql}
use Rattle.sql_gen_stars.proofs.pairs.pair_items.Given as goal

abbrev pub invariant-loop-v : goal.invariant-loop-v
invariant-loop-v l = one_item ∷ map (variable_item (pair_sql l.pair l.predicate)) l.vs ≡ l.items ++ map (variable_item (pair_sql l.pair l.predicate)) (drop l.v-index l.vs)
