use Rattle.std.proofs.Common.{◌≡◌, ◌∷◌, if◌then◌else◌, Ok, subst}
use Rattle.std.specs.Prelude.{OnOk, OnErr}
use Rattle.std.proofs.lemmas.Result.{on_ok_weaker, on_err_weaker}
use Rattle.bags.specs.Bag.{SameBag}
use Rattle.layout_standing_meaning.specs.Stored.{StoreOf, stored_triples}
use Rattle.layout_standing_meaning.specs.Changes.{store_of, is_stored}
use Rattle.layout_standing_meaning.proofs.Changed.{triples-refused}
use Rattle.value_lists.specs.declared.lists.Put.TheVariants.{There}
use Rattle.rdf_layout.proofs.Keeping.{put-in_order, held-after_put, there-same}
use Rattle.rdf_layout.proofs.store.Store.insert.Goals as goal

pub invariant_of-self : goal.invariant_of-self
invariant_of-self c =
    let s : StoreOf = store_of c.self.inside.book c.self.inside.sides in
    let new : StoreOf = store_of c.put.new.book c.put.new.sides in
    (c.put.ensures.store, c.put.ensures.few, put-in_order c.put.result s new c.args.t.now c.put.ensures.stored c.put.ensures.err c.self.invariant.2)

pub returns-clause-triples : goal.returns-clause-triples
returns-clause-triples c =
    let s : StoreOf = store_of c.self.inside.book c.self.inside.sides in
    let new : StoreOf = store_of c.put.new.book c.put.new.sides in
    subst (λ (w : StoreOf). OnOk c.put.result (SameBag (stored_triples new) (if is_stored w c.args.t.now then stored_triples w else c.args.t.now ∷ stored_triples w))) c.self.view_is
    (on_ok_weaker c.put.result (held-after_put s new c.args.t.now c.self.invariant.0 c.put.ensures.form) c.put.ensures.stored)

pub returns-clause-same : goal.returns-clause-same
returns-clause-same c =
    let s : StoreOf = store_of c.self.inside.book c.self.inside.sides in
    let new : StoreOf = store_of c.put.new.book c.put.new.sides in
    subst (λ (w : StoreOf). OnErr c.put.result (stored_triples new ≡ stored_triples w)) c.self.view_is
    (on_err_weaker c.put.result (triples-refused s c.args.t.now new c.self.invariant.0 c.put.ensures.form) c.put.ensures.err)

pub returns-clause-there : goal.returns-clause-there
returns-clause-there c =
    let s : StoreOf = store_of c.self.inside.book c.self.inside.sides in
    let new : StoreOf = store_of c.put.new.book c.put.new.sides in
    subst (λ (w : StoreOf). c.put.result ≡ Ok There → new ≡ w) c.self.view_is
    (there-same c.put.result s new c.args.t.now c.self.invariant.0 c.put.ensures.form c.put.ensures.put c.put.ensures.stored)
