use Rattle.std.proofs.Common.{◌≡◌, ◌∷◌, ◌++◌, map, drop}
use Rattle.sql_gen_step_laws.specs.StepSelects.{one_item, variable_item, own_sql}
use Rattle.sql_gen_steps.proofs.items.own_items.Given as goal

-- all columns are those so far, and then those of the rest
abbrev pub invariant-loop-v : goal.invariant-loop-v
invariant-loop-v l = one_item ∷ map (variable_item (own_sql l.variables)) l.all ≡ l.items ++ map (variable_item (own_sql l.variables)) (drop l.v-index l.all)
