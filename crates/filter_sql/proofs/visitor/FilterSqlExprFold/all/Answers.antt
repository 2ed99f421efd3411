use Rattle.filter_sql.proofs.Nodes.{of_all}
use Rattle.filter_sql.proofs.visitor.FilterSqlExprFold.all.Goals as goal

pub returns-clause-out : goal.returns-clause-out
returns-clause-out c = of_all c.args.node.now c.requires.shape.0 c.all_of.result c.args.parts.items c.requires.shape.1 c.requires.shape.2 c.all_of.ensures
