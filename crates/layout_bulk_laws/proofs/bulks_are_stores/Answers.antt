use Rattle.layout_bulk_laws.proofs.Bulks as bulks
use Rattle.layout_bulk_laws.proofs.bulks_are_stores.Goals as goal

pub returns-clause-store : goal.returns-clause-store
returns-clause-store c = bulks.bulks_are_stores

pub returns-clause-triples : goal.returns-clause-triples
returns-clause-triples c = bulks.bulks_hold

pub returns-clause-in_order : goal.returns-clause-in_order
returns-clause-in_order c = bulks.bulks_in_order
