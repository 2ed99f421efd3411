use Rattle.std.proofs.Common.{List, sym, subst}
use Rattle.bags.specs.Bag.{SameBag}
use Rattle.rdf_meaning.specs.Terms.{RdfTriple}
use Rattle.layout_standing_meaning.specs.Stored.{stored_triples}
use Rattle.line_change_laws.proofs.Present.{adds_present}
use Rattle.run_store.proofs.Bulk.{bulk-within, bulk-no-lists, bulk-passes}
use Rattle.run_store.proofs.placing.load_bulk.Goals as goal

pub returns-in-Ok-clause-triples : goal.returns-in-Ok-clause-triples
returns-in-Ok-clause-triples g c = subst (λ (ts : List RdfTriple). SameBag (stored_triples c.in-Ok.store) ts) (sym (adds_present c.args.bulk.now)) c.in-Ok.ensures.triples

pub returns-in-Ok-clause-within : goal.returns-in-Ok-clause-within
returns-in-Ok-clause-within g c = bulk-within c.args.bulk.now c.in-Ok.ensures.good

pub load_refusal-requires : goal.load_refusal-requires
load_refusal-requires g c = bulk-no-lists c.args.bulk.now c.in-Err.refusal c.in-Err.ensures.refused

pub returns-in-Err-clause-passed : goal.returns-in-Err-clause-passed
returns-in-Err-clause-passed g c = bulk-passes c.args.bulk.now c.in-Err.refusal c.load_refusal.result c.in-Err.ensures.refused c.load_refusal.ensures
