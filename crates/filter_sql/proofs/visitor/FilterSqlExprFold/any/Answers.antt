use Rattle.filter_sql.proofs.Nodes.{of_any}
use Rattle.filter_sql.proofs.visitor.FilterSqlExprFold.any.Goals as goal

pub returns-clause-out : goal.returns-clause-out
returns-clause-out c = of_any c.args.node.now c.requires.shape.0 c.any_of.result c.args.parts.items c.requires.shape.1 c.requires.shape.2 c.any_of.ensures
