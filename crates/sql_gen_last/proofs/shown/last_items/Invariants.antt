use Rattle.std.proofs.Common.{◌≡◌, ◌∷◌, ◌++◌, ◌+◌, drop}
use Rattle.sql_gen_step_laws.specs.StepSelects.{one_item}
use Rattle.sql_gen_last_laws.specs.LastSelect.{shown_items}
use Rattle.sql_gen_last.proofs.shown.last_items.Given as goal

-- all columns are those so far, and then those of the rest
abbrev pub invariant-loop-at : goal.invariant-loop-at
invariant-loop-at l = one_item ∷ shown_items 1 l.shown ≡ l.items ++ shown_items (l.at + 1) (drop l.at l.shown)
