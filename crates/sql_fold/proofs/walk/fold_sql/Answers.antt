use Rattle.sql_fold.proofs.Children.{Each-kept}
use Rattle.sql_alias_meaning.specs.Nodes.{of_body}
use Rattle.sql_meaning.specs.declared.script.Step.{Step}
use Rattle.sql_fold.proofs.walk.fold_sql.Goals as goal

pub script-requires-clause-steps : goal.script-requires-clause-steps
script-requires-clause-steps g c = Each-kept (λ x (y : Step). of_body x y.body) _ _ _ c.as_slice.ensures c.fold_body.ensures.kept c.in_ok-steps.ensures.out
