use Rattle.sparql_lexemes.specs.Scopes.{ends_declaration}
use Rattle.sparql_lexemes.proofs.scope.declare.Goals as goal

pub returns-in_ok-iri-in-Named-Iri : goal.returns-in_ok-iri-in-Named-Iri
returns-in_ok-iri-in-Named-Iri c =
    ends_declaration c.declare.result c.args.before.now c.args.kind.now c.in-Named-Iri.prefix c.in-Named-Iri.iri _ _ _ _ c.in-Named-Iri.is-0 c.in-Named-Iri.is-1 c.in_ok-prefix-in-Named-Iri.ensures c.in_ok-iri-in-Named-Iri.ensures c.declare.ensures
