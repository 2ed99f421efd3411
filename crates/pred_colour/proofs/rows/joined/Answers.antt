use Rattle.std.proofs.Common.{◌∙◌, ap, sym, arith}
use Rattle.pred_colour_meaning.specs.Interference.{has}
use Rattle.pred_colour.specs.Entities.{preds_of}
use Rattle.pred_colour.proofs.Joins.{any_at}
use Rattle.pred_colour.proofs.rows.joined.Goals as goal

pub join_entity-requires-clause-among : goal.join_entity-requires-clause-among
join_entity-requires-clause-among c = λ p h.
    c.requires.among p (any_at (has p) preds_of c.args.entities.now c.loop-entity.entity-index c.entity-item.result (omega arith) (ap (has p) (sym (c.as_slice.ensures.value ∙ ap preds_of c.entity-item.is)) ∙ h))
