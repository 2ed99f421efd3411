use Rattle.std.proofs.Common.{◌≡◌, ◌<◌, ℕ, true}
use Rattle.std.specs.Map.{keys_of}
use Rattle.pred_colour_meaning.specs.Colouring.{is_seen}
use Rattle.pred_colour.specs.Given.{pairs_of}
use Rattle.pred_colour.specs.GraphRows.{pred_at}
use Rattle.pred_colour.proofs.colouring.free_column.Given as goal

abbrev pub invariant-loop-column : goal.invariant-loop-column
invariant-loop-column l = (c : ℕ) → c < l.column → is_seen l.graph (pairs_of l.colours) (pred_at (keys_of l.graph) l.place) c ≡ true
