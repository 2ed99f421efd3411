use Rattle.std.proofs.Common.{◌≡◌, ◌++◌, ◌∷◌, map, drop}
use Rattle.sql_gen_step_laws.specs.StepSelects.{one_item, variable_item}
use Rattle.sql_gen_star_meaning.specs.StarSelects.{open_sql}
use Rattle.sql_gen_stars.proofs.open.open_items.Given as goal

abbrev pub invariant-loop-v : goal.invariant-loop-v
invariant-loop-v l = one_item ∷ map (variable_item (open_sql l.arm l.asked)) l.vs ≡ l.items ++ map (variable_item (open_sql l.arm l.asked)) (drop l.v-index l.vs)
