use Rattle.std.proofs.Common.{◌≡◌, take, map, Ok}
use Rattle.sql_rows_meaning.specs.Faults.{all_fine}
use Rattle.sql_rows_meaning.specs.Checks.{check}
use Rattle.sql_rows_meaning.specs.CheckLaws.{branch_kinds}
use Rattle.sql_bind_laws.specs.Places.{places_of, place, place_branch}
use Rattle.sql_bind_names.specs.Newest.{scope_in}
use Rattle.sql_bind_expressions.proofs.expressions.+bind.Given as goal

abbrev pub invariant-bind_parts-loop-part : goal.invariant-bind_parts-loop-part
invariant-bind_parts-loop-part l = record {
  kinds : all_fine (map (λ e. check e (scope_in l.sources)) (take l.part-index l.parts)) ≡ Ok l.kinds.items;
  exprs : l.exprs ≡ map (λ e. place e (places_of l.sources)) (take l.part-index l.parts);
}

abbrev pub invariant-bind_branches-loop-branch : goal.invariant-bind_branches-loop-branch
invariant-bind_branches-loop-branch l = record {
  kinds : all_fine (map (λ b. branch_kinds b (scope_in l.sources)) (take l.branch-index l.branches)) ≡ Ok l.kinds.items;
  branches : l.bound ≡ map (λ b. place_branch b (places_of l.sources)) (take l.branch-index l.branches);
}
