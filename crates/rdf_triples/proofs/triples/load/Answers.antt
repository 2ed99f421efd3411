use Rattle.std.proofs.Common.{◌≡◌, subst}
use Rattle.std.specs.Prelude.{Option, None, OnOk, IfErr}
use Rattle.run_meaning.specs.declared.which.Which.{Which}
use Rattle.rdf_triples.specs.Refusals.{Refuses}
use Rattle.rdf_triples.proofs.Changes.{bag_held, terms_held, limit_passed}
use Rattle.rdf_triples.proofs.triples.load.Goals as goal

pub returns-clause-ok : goal.returns-clause-ok
returns-clause-ok c = bag_held c.take_all.result c.args.changes.items c.take_all.ensures.ok

pub returns-clause-terms : goal.returns-clause-terms
returns-clause-terms c = terms_held c.take_all.result c.args.changes.items c.take_all.ensures.ok

pub returns-clause-within : goal.returns-clause-within
returns-clause-within c = subst (λ (o : Option Which). OnOk c.take_all.result (o ≡ None)) (limit_passed c.args.changes.items) c.take_all.ensures.within

pub returns-clause-passed : goal.returns-clause-passed
returns-clause-passed c = subst (λ (o : Option Which). IfErr c.take_all.result (λ e. Refuses e o)) (limit_passed c.args.changes.items) c.take_all.ensures.passed
