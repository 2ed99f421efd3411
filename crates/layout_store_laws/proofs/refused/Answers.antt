use Rattle.layout_standing_meaning.proofs.Changed.{store-refused, triples-refused}
use Rattle.layout_store_laws.proofs.refused.Goals as goal

pub returns-clause-store : goal.returns-clause-store
returns-clause-store c = store-refused

pub returns-clause-triples : goal.returns-clause-triples
returns-clause-triples c = triples-refused
