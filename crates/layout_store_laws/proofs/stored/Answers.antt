use Rattle.layout_standing_meaning.proofs.Changed.{store-in, triples-in}
use Rattle.layout_store_laws.proofs.stored.Goals as goal

pub returns-clause-store : goal.returns-clause-store
returns-clause-store c = store-in

pub returns-clause-triples : goal.returns-clause-triples
returns-clause-triples c = triples-in
