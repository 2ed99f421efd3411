use Rattle.std.proofs.Common.{◌≡◌, sym, subst}
use Rattle.std.specs.Prelude.{IfOk}
use Rattle.std.proofs.lemmas.Result.{IfOk-weaker}
use Rattle.layout_meaning.specs.Facts.{FactsOf}
use Rattle.layout_standing_meaning.specs.Stored.{StoreOf, layout_of, tables_of, stored_triples}
use Rattle.layout_standing_meaning.specs.Changes.{store_of}
use Rattle.layout_facts_meaning.specs.Facts.{AreFacts, store_facts}
use Rattle.rdf_layout.proofs.store.Store.facts.Goals as goal

pub facts_of-requires : goal.facts_of-requires
facts_of-requires c = c.self.invariant.0.distinct

pub returns-clause-exact : goal.returns-clause-exact
returns-clause-exact c = subst (λ (w : StoreOf). IfOk c.facts_of.result (λ f. f ≡ store_facts w c.args.preds.now)) c.self.view_is c.facts_of.ensures

pub returns-clause-told : goal.returns-clause-told
returns-clause-told c =
    let s : StoreOf = store_of c.self.inside.book c.self.inside.sides in
    subst (λ (w : StoreOf). IfOk c.facts_of.result (λ f. AreFacts (layout_of w) (tables_of w) (stored_triples w) c.args.preds.now f)) c.self.view_is
    (IfOk-weaker c.facts_of.result _ _ (λ f e. subst (λ (g : FactsOf). AreFacts (layout_of s) (tables_of s) (stored_triples s) c.args.preds.now g) (sym e) (c.stores_tell.ensures.facts s c.args.preds.now c.self.invariant.0)) c.facts_of.ensures)
