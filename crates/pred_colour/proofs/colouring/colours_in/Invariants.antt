use Rattle.std.proofs.Common.{take}
use Rattle.std.specs.Map.{keys_of}
use Rattle.pred_colour_meaning.specs.Colouring.{AreColours}
use Rattle.pred_colour.specs.Given.{pairs_of, HaveColumns}
use Rattle.pred_colour.proofs.colouring.colours_in.Given as goal

abbrev pub invariant-loop-at : goal.invariant-loop-at
invariant-loop-at l = record {
  columns : HaveColumns (keys_of l.graph) l.k l.colours;
  turns : AreColours l.graph l.k (take l.at l.order) (pairs_of l.colours);
}
