use Rattle.filter_sql.proofs.Nodes.{one_of_made}
use Rattle.filter_sql.proofs.visitor.FilterSqlExprFold.one_of.Goals as goal

pub returns-clause-out : goal.returns-clause-out
returns-clause-out c =
    one_of_made c.one_of.result c.args.node.now c.in-OneOf.value c.value_chain.result c.in-OneOf.others c.as_slice.result.now c.in-OneOf.is
    c.value_chain.ensures.value c.as_slice.ensures c.value_chain.ensures.written c.one_of.ensures.value c.one_of.ensures.written
