use Rattle.std.proofs.Common.{◌∙◌, subst}
use Rattle.layout_meaning.specs.Rows.{SideOf}
use Rattle.layout_standing_meaning.specs.Contents.{side_contents}
use Rattle.layout_standing_meaning.specs.Stored.{StoreOf, layout_of, tables_of, stored_triples}
use Rattle.layout_standing_meaning.specs.Changes.{store_of}
use Rattle.layout_stats_meaning.specs.Statistics.{StatsOf, AreStats, AreSideStats}
use Rattle.layout_stats_laws.proofs.Counts.{store-counted}
use Rattle.rdf_layout.proofs.Putting.{count-is}
use Rattle.rdf_layout.proofs.store.Store.stats.Goals as goal

pub returns : goal.returns
returns c =
    let s : StoreOf = store_of c.self.inside.book c.self.inside.sides in
    let stats : StatsOf = record { triples = c.count.result; terms = c.from.result; direct = c.side_stats.result; reverse = c.side_stats-2.result } in
    let direct : AreSideStats s.direct.columns (side_contents s.direct.state) c.side_stats.result = subst (λ (w : SideOf). AreSideStats w.columns (side_contents w.state) c.side_stats.result) c.direct.ensures c.side_stats.ensures in
    let reverse : AreSideStats s.reverse.columns (side_contents s.reverse.state) c.side_stats-2.result = subst (λ (w : SideOf). AreSideStats w.columns (side_contents w.state) c.side_stats-2.result) c.reverse.ensures c.side_stats-2.ensures in
    subst (λ (w : StoreOf). AreStats (layout_of w) (tables_of w) (stored_triples w) stats) c.self.view_is
    (store-counted s stats c.self.invariant.0 (c.count.ensures.count ∙ count-is s) (c.from.ensures ∙ c.count-2.ensures.value) direct reverse)
