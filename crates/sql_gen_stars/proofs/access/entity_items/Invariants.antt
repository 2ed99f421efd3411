use Rattle.std.proofs.Common.{◌≡◌, ◌++◌, ◌∷◌, map, drop}
use Rattle.sql_gen_step_laws.specs.StepSelects.{one_item, variable_item}
use Rattle.sql_gen_star_meaning.specs.StarSelects.{entity_sql}
use Rattle.sql_gen_stars.proofs.access.entity_items.Given as goal

abbrev pub invariant-loop-v : goal.invariant-loop-v
invariant-loop-v l = one_item ∷ map (variable_item entity_sql) l.vs ≡ l.items ++ map (variable_item entity_sql) (drop l.v-index l.vs)
