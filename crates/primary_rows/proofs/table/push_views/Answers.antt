use Rattle.std.proofs.Common.{◌<◌, length, refl, arith, map}
use Rattle.primary_rows.specs.declared.views.RowView.{RowView}
use Rattle.primary_rows.proofs.Viewed.{viewed-next}
use Rattle.primary_rows.specs.Views.{seen_row}
use Rattle.primary_rows.proofs.table.push_views.Goals as goal

pub loop-number-preserved : goal.loop-number-preserved
loop-number-preserved c =
    let within : c.loop-number.number < length c.as_slice-rows.result.now = omega arith in
    let v : RowView = record { entity = c.args.entity; spill = c.loop-number.number; cells = c.cells.result } in
    viewed-next c.args.entity c.loop-number.number c.as_slice-rows.result.now c.index-rows-number.result v c.loop-number.views.items c.push.new.self.items (map seen_row c.args.views.now.items) within
    c.index-rows-number.is c.cells.ensures refl refl c.in_ok-push.ensures.items c.loop-number.invariant
