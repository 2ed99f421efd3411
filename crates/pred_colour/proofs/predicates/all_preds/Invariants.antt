use Rattle.std.proofs.Common.{◌≡◌, take}
use Rattle.std.specs.List.{flat_map}
use Rattle.pred_colour.specs.Entities.{preds_of}
use Rattle.pred_colour.proofs.predicates.all_preds.Given as goal

abbrev pub invariant-loop-entity : goal.invariant-loop-entity
invariant-loop-entity l = l.preds.items ≡ flat_map preds_of (take l.entity-index l.entities)
