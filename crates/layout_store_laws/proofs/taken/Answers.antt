use Rattle.layout_standing_meaning.proofs.Changed.{store-out, triples-out}
use Rattle.layout_store_laws.proofs.taken.Goals as goal

pub returns-clause-store : goal.returns-clause-store
returns-clause-store c = store-out

pub returns-clause-triples : goal.returns-clause-triples
returns-clause-triples c = triples-out
