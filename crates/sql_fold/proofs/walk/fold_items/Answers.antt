use Rattle.sql_fold.proofs.Children.{Each-whole, Each-next, Keeps-refl, Keeps-then}
use Rattle.sql_alias_meaning.specs.Each.{none}
use Rattle.sql_alias_meaning.specs.Nodes.{of_expr}
use Rattle.sql_meaning.specs.declared.script.Item.{Item}
use Rattle.sql_fold.proofs.walk.fold_items.Goals as goal

pub loop-item-init : goal.loop-item-init
loop-item-init g c = (Keeps-refl _ _, rw c.new-outs.ensures.items none)

pub loop-item-preserved : goal.loop-item-preserved
loop-item-preserved g c = (
  Keeps-then c.loop-item.invariant.0 c.fold_expr.ensures.kept,
  Each-next (λ x (y : Item). of_expr x y.expr) _ _ _ _ _ _ _ _ _ _ c.fold_expr.ensures.kept c.loop-item.invariant.1 c.in_ok-out.ensures.out c.in_ok-push.ensures.items c.loop-item-test.true c.item-item.is,
)

pub returns-clause-out : goal.returns-clause-out
returns-clause-out g c = Each-whole _ _ _ _ c.loop-item-test.false c.loop-item.invariant.1
