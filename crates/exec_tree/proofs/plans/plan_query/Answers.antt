use Rattle.std.proofs.Common.{rules}
use Rattle.exec_tree.proofs.Comes.{comes_as}
use Rattle.exec_tree.proofs.plans.plan_query.Goals as goal

pub returns-clause-comes : goal.returns-clause-comes
returns-clause-comes c = comes_as c.args.counts.now c.args.q.now _ _ _ (search rules) (search rules) (search rules)
