use Rattle.sql_fold.proofs.Children.{Each-whole, Each-next, Keeps-refl, Keeps-then}
use Rattle.sql_alias_meaning.specs.Each.{none}
use Rattle.sql_alias_meaning.specs.Nodes.{of_expr}
use Rattle.sql_meaning.specs.declared.script.SqlKey.{SqlKey}
use Rattle.sql_fold.proofs.walk.fold_keys.Goals as goal

pub loop-key-init : goal.loop-key-init
loop-key-init g c = (Keeps-refl _ _, rw c.new-outs.ensures.items none)

pub loop-key-preserved : goal.loop-key-preserved
loop-key-preserved g c = (
  Keeps-then c.loop-key.invariant.0 c.fold_expr.ensures.kept,
  Each-next (λ x (y : SqlKey). of_expr x y.expr) _ _ _ _ _ _ _ _ _ _ c.fold_expr.ensures.kept c.loop-key.invariant.1 c.in_ok-out.ensures.out c.in_ok-push.ensures.items c.loop-key-test.true c.key-item.is,
)

pub returns-clause-out : goal.returns-clause-out
returns-clause-out g c = Each-whole _ _ _ _ c.loop-key-test.false c.loop-key.invariant.1
