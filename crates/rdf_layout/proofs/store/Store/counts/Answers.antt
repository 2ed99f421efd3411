use Rattle.std.proofs.Common.{sym, subst}
use Rattle.std.specs.Prelude.{IfOk}
use Rattle.std.proofs.lemmas.Result.{IfOk-weaker}
use Rattle.layout_meaning.specs.Facts.{CountsOf}
use Rattle.layout_standing_meaning.specs.Stored.{StoreOf, layout_of, tables_of, stored_triples}
use Rattle.layout_standing_meaning.specs.Changes.{store_of}
use Rattle.layout_counts_meaning.specs.Counts.{AreCounts}
use Rattle.rdf_layout.proofs.store.Store.counts.Goals as goal

pub counts_of-requires : goal.counts_of-requires
counts_of-requires c = c.self.invariant.0

pub returns : goal.returns
returns c =
    let s : StoreOf = store_of c.self.inside.book c.self.inside.sides in
    subst (λ (w : StoreOf). IfOk c.counts_of.result (λ f. AreCounts (layout_of w) (tables_of w) (stored_triples w) c.args.terms.now f)) c.self.view_is
    (IfOk-weaker c.counts_of.result _ _ (λ f e. subst (λ (g : CountsOf). AreCounts (layout_of s) (tables_of s) (stored_triples s) c.args.terms.now g) (sym e) (c.stores_count.ensures s c.args.terms.now c.self.invariant.0)) c.counts_of.ensures)
