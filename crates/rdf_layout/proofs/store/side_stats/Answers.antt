use Rattle.std.proofs.Common.{ap, ◌∙◌}
use Rattle.layout_meaning.specs.Columns.{ColumnsOf}
use Rattle.layout_stats_meaning.specs.Statistics.{SideStatsOf}
use Rattle.layout_stats_laws.proofs.Counts.{side-counted}
use Rattle.rdf_layout.proofs.store.side_stats.Goals as goal

pub returns : goal.returns
returns c =
    let stats : SideStatsOf = record { columns = c.count.result; rows = c.row_count.result; lists = c.list_count.result; spilled = c.spilled_count.result } in
    side-counted c.args.side.now stats (c.count.ensures.value ∙ ap (λ (w : ColumnsOf). w.count) c.columns.ensures.value) c.row_count.ensures c.list_count.ensures c.spilled_count.ensures
