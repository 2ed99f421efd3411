use Rattle.sql_fold.proofs.Children.{Each-whole, Each-next, Keeps-refl, Keeps-then}
use Rattle.sql_alias_meaning.specs.Each.{none}
use Rattle.sql_alias_meaning.specs.Nodes.{of_core}
use Rattle.sql_meaning.specs.declared.script.Core.{Core}
use Rattle.sql_fold.proofs.walk.fold_cores.Goals as goal

pub loop-core-init : goal.loop-core-init
loop-core-init g c = (Keeps-refl _ _, rw c.new-outs.ensures.items none)

pub loop-core-preserved : goal.loop-core-preserved
loop-core-preserved g c = (
  Keeps-then c.loop-core.invariant.0 c.fold_core.ensures.kept,
  Each-next (λ x (y : Core). of_core x y) _ _ _ _ _ _ _ _ _ _ c.fold_core.ensures.kept c.loop-core.invariant.1 c.in_ok-out.ensures.out c.in_ok-push.ensures.items c.loop-core-test.true c.core-item.is,
)

pub returns-clause-out : goal.returns-clause-out
returns-clause-out g c = Each-whole _ _ _ _ c.loop-core-test.false c.loop-core.invariant.1
