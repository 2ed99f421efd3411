use Rattle.std.proofs.Common.{◌<◌, ℕ, length, arith}
use Rattle.primary_rows.specs.Counted.{count_in}
use Rattle.primary_rows.proofs.Counting.{lowered-next}
use Rattle.primary_rows.proofs.table.lower_first.Goals as goal

pub loop-pair-preserved : goal.loop-pair-preserved
loop-pair-preserved c = λ (q : ℕ).
    let within : c.loop-pair.pair-index < length c.cells-pair-items.result.now = omega arith in
    lowered-next q c.cells-pair-items.result.now c.loop-pair.pair-index _ (count_in c.args.spilled.now q) (count_in c.loop-pair.spilled q) (count_in c.lower_pair.new.spilled q) within (c.loop-pair.invariant q) (c.lower_pair.ensures q)
