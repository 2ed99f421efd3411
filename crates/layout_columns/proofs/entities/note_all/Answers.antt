use Rattle.std.proofs.Common.{◌<◌, length, arith}
use Rattle.layout_columns.proofs.ByEntity.{noted-more}
use Rattle.layout_columns.proofs.entities.note_all.Goals as goal

pub loop-at-preserved : goal.loop-at-preserved
loop-at-preserved c =
    let within : c.loop-at.at < length c.args.placed.now = omega arith in
    noted-more c.args.entities.now.entries c.loop-at.entities.entries c.note_item.new.entities.entries c.args.placed.now c.loop-at.at _ within c.loop-at.invariant c.in_ok-note_item.ensures
