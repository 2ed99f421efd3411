use Rattle.std.proofs.Common.{◌≡◌, ℕ, length, take}
use Rattle.pred_colour_meaning.specs.Interference.{has}
use Rattle.pred_colour.specs.GraphRows.{stands_in, AreBelow}
use Rattle.pred_colour.proofs.places.places_of.Given as goal

abbrev pub invariant-loop-pred : goal.invariant-loop-pred
invariant-loop-pred l = record {
  stand : (q : ℕ) → stands_in l.all l.places q ≡ has q (take l.pred-index l.preds);
  below : AreBelow (length l.all) l.places;
}
