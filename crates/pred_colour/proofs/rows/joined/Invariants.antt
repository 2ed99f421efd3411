use Rattle.std.proofs.Common.{◌≡◌, ◌<◌, ℕ, length, map, take}
use Rattle.std.specs.List.{list_any}
use Rattle.pred_colour.specs.Entities.{preds_of, are_joined}
use Rattle.pred_colour.specs.GraphRows.{pred_at, row_at, is_other, AreRows}
use Rattle.pred_colour.proofs.rows.joined.Given as goal

abbrev pub invariant-loop-entity : goal.invariant-loop-entity
invariant-loop-entity l = record {
  rows : AreRows l.all l.rows.items;
  joined : (i q : ℕ) → i < length l.all → is_other l.all (row_at l.rows.items i) (pred_at l.all i) q ≡ list_any (are_joined (pred_at l.all i) q) (map preds_of (take l.entity-index l.entities));
}
