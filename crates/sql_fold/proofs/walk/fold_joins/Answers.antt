use Rattle.sql_fold.proofs.Children.{Each-whole, Each-next, Keeps-refl, Keeps-then}
use Rattle.sql_alias_meaning.specs.Each.{none}
use Rattle.sql_alias_meaning.specs.Nodes.{of_expr}
use Rattle.sql_meaning.specs.declared.script.JoinTo.{JoinTo}
use Rattle.sql_fold.proofs.walk.fold_joins.Goals as goal

pub loop-join-init : goal.loop-join-init
loop-join-init g c = (Keeps-refl _ _, rw c.new-outs.ensures.items none)

pub loop-join-preserved : goal.loop-join-preserved
loop-join-preserved g c = (
  Keeps-then c.loop-join.invariant.0 c.fold_expr.ensures.kept,
  Each-next (λ x (y : JoinTo). of_expr x y.on) _ _ _ _ _ _ _ _ _ _ c.fold_expr.ensures.kept c.loop-join.invariant.1 c.in_ok-out.ensures.out c.in_ok-push.ensures.items c.loop-join-test.true c.join-item.is,
)

pub returns-clause-out : goal.returns-clause-out
returns-clause-out g c = Each-whole _ _ _ _ c.loop-join-test.false c.loop-join.invariant.1
