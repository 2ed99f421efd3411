use Rattle.std.proofs.Common.{◌≡◌, ◌∷◌, if◌then◌else◌, subst}
use Rattle.bags.specs.Bag.{SameBag}
use Rattle.layout_standing_meaning.specs.Stored.{StoreOf, stored_triples}
use Rattle.layout_standing_meaning.specs.Changes.{store_of, is_stored}
use Rattle.primary_rows.specs.declared.side.Took.TheVariants.{Absent}
use Rattle.rdf_layout.proofs.Keeping.{taken-out_order, held-after_take, absent-same}
use Rattle.rdf_layout.proofs.store.Store.delete.Goals as goal

pub invariant_of-self : goal.invariant_of-self
invariant_of-self c =
    let s : StoreOf = store_of c.self.inside.book c.self.inside.sides in
    let new : StoreOf = store_of c.self.inside.book c.take.new.sides in
    (c.take.ensures.store, c.self.invariant.1, taken-out_order s new c.args.t.now c.take.ensures.stored c.self.invariant.2)

pub returns-clause-triples : goal.returns-clause-triples
returns-clause-triples c =
    let s : StoreOf = store_of c.self.inside.book c.self.inside.sides in
    let new : StoreOf = store_of c.self.inside.book c.take.new.sides in
    subst (λ (w : StoreOf). SameBag (if is_stored w c.args.t.now then c.args.t.now ∷ stored_triples new else stored_triples new) (stored_triples w)) c.self.view_is
    (held-after_take s new c.args.t.now c.self.invariant.0 c.take.ensures.stored)

pub returns-clause-absent : goal.returns-clause-absent
returns-clause-absent c =
    let s : StoreOf = store_of c.self.inside.book c.self.inside.sides in
    let new : StoreOf = store_of c.self.inside.book c.take.new.sides in
    subst (λ (w : StoreOf). c.take.result ≡ Absent → new ≡ w) c.self.view_is
    (absent-same c.take.result s new c.args.t.now c.self.invariant.0 c.take.ensures.took c.take.ensures.stored)
