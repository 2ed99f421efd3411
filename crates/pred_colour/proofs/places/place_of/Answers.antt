use Rattle.std.proofs.Common.{◌<◌, ◌^◌, arith}
use Rattle.pred_colour.proofs.Found.{not_there, place_fits}
use Rattle.pred_colour.proofs.places.place_of.Goals as goal

pub overflow_cast-result : goal.overflow_cast-result
overflow_cast-result c =
    let fits : c.in-Ok.place < 2 ^ 32 = place_fits c.args.preds.now c.in-Ok.place c.requires (λ k. (c.type_inv.preds k).fits) c.in-Ok.ensures.bound in
    omega arith

pub returns-in-Err-clause-absent : goal.returns-in-Err-clause-absent
returns-in-Err-clause-absent c = not_there c.args.preds.now c.args.pred c.in-Err.field-0 c.requires c.in-Err.ensures.position
