use Rattle.std.proofs.Common.{arith}
use Rattle.pred_colour.proofs.Found.{below_at}
use Rattle.pred_colour.proofs.rows.join_rows.Goals as goal

pub join_row-requires : goal.join_row-requires
join_row-requires c = let b = below_at _ c.args.places.now c.loop-place.place-index c.requires (omega arith) in omega arith
