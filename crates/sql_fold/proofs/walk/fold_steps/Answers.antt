use Rattle.sql_fold.proofs.Children.{Each-whole, Each-next, Keeps-refl, Keeps-then}
use Rattle.sql_alias_meaning.specs.Each.{none}
use Rattle.sql_alias_meaning.specs.Nodes.{of_body}
use Rattle.sql_meaning.specs.declared.script.Step.{Step}
use Rattle.sql_fold.proofs.walk.fold_steps.Goals as goal

pub loop-step-init : goal.loop-step-init
loop-step-init g c = (Keeps-refl _ _, rw c.new-outs.ensures.items none)

pub loop-step-preserved : goal.loop-step-preserved
loop-step-preserved g c = (
  Keeps-then c.loop-step.invariant.0 c.fold_body.ensures.kept,
  Each-next (λ x (y : Step). of_body x y.body) _ _ _ _ _ _ _ _ _ _ c.fold_body.ensures.kept c.loop-step.invariant.1 c.in_ok-out.ensures.out c.in_ok-push.ensures.items c.loop-step-test.true c.step-item.is,
)

pub returns-clause-out : goal.returns-clause-out
returns-clause-out g c = Each-whole _ _ _ _ c.loop-step-test.false c.loop-step.invariant.1
