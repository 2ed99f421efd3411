use Rattle.sparql_reader.specs.Queries.{query_translated}
use Rattle.sparql_reader.proofs.queries.read_query.Goals as goal

pub returns-clause-reads : goal.returns-clause-reads
returns-clause-reads c =
    query_translated c.args.bytes.now c.in_ok-syntax.syntax c.in_ok-translate.field-0 c.in_ok-syntax.ensures.reads c.in_ok-translate.ensures
