use Rattle.std.proofs.Common.{◌≡◌, [], map, take, slice_index_or}
use Rattle.run_query.proofs.answer.shown_names.Given as goal

abbrev pub invariant-loop-variable : goal.invariant-loop-variable
invariant-loop-variable l = l.names.items ≡ map (λ v. slice_index_or l.query.names v []) (take l.variable-index l.variable-items)
