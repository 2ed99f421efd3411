use Rattle.std.proofs.Common.{◌≡◌, List, sym, subst}
use Rattle.std.specs.Prelude.{IfOk}
use Rattle.std.proofs.lemmas.Result.{IfOk-weaker}
use Rattle.layout_meaning.specs.Facts.{IdOf}
use Rattle.layout_standing_meaning.specs.Stored.{StoreOf, layout_of, tables_of, stored_triples}
use Rattle.layout_standing_meaning.specs.Changes.{store_of}
use Rattle.layout_facts_meaning.specs.Facts.{AreIds, store_ids}
use Rattle.rdf_layout.proofs.store.Store.ids.Goals as goal

pub ids_of-requires : goal.ids_of-requires
ids_of-requires c = c.self.invariant.0.distinct

pub returns-clause-exact : goal.returns-clause-exact
returns-clause-exact c = subst (λ (w : StoreOf). IfOk c.ids_of.result (λ f. f ≡ store_ids w c.args.terms.now)) c.self.view_is c.ids_of.ensures

pub returns-clause-told : goal.returns-clause-told
returns-clause-told c =
    let s : StoreOf = store_of c.self.inside.book c.self.inside.sides in
    subst (λ (w : StoreOf). IfOk c.ids_of.result (λ f. AreIds (layout_of w) (tables_of w) (stored_triples w) c.args.terms.now f)) c.self.view_is
    (IfOk-weaker c.ids_of.result _ _ (λ f e. subst (λ (g : List IdOf). AreIds (layout_of s) (tables_of s) (stored_triples s) c.args.terms.now g) (sym e) (c.stores_tell.ensures.ids s c.args.terms.now c.self.invariant.0)) c.ids_of.ensures)
