use Rattle.std.proofs.Common.{◌≡◌, map}
use Rattle.std.specs.Prelude.{vec_items}
use Rattle.pred_colour.specs.Entities.{preds_of}
use Rattle.layout_columns.proofs.sets.as_entities.Given as goal

abbrev pub invariant-sets : goal.invariant-sets
invariant-sets l = map preds_of l.list.items ≡ map vec_items l.yielded
