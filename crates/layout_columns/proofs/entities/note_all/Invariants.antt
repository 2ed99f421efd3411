use Rattle.std.proofs.Common.{◌≡◌, ◌||◌, ℕ, map, take}
use Rattle.std.specs.List.{list_any}
use Rattle.pred_colour_meaning.specs.Interference.{has, neighbours_of}
use Rattle.shredder.specs.Items.{item_of}
use Rattle.layout_columns.specs.Entities.{is_pair}
use Rattle.layout_columns.proofs.entities.note_all.Given as goal

abbrev pub invariant-loop-at : goal.invariant-loop-at
invariant-loop-at l = (e p : ℕ) → has p (neighbours_of l.entities.entries e) ≡ (has p (neighbours_of l.fn.entities.entries e) || list_any (is_pair e p) (map item_of (take l.at l.placed)))
