use Rattle.std.proofs.Common.{◌≡◌, ◌++◌, map, drop}
use Rattle.pred_colour.specs.GraphRows.{with_rows, graph_of}
use Rattle.pred_colour.specs.Turns.{turn_of}
use Rattle.pred_colour.proofs.graph.turns.Given as goal

abbrev pub invariant-loop-place : goal.invariant-loop-place
invariant-loop-place l = l.turns.items ++ map turn_of (with_rows l.preds (drop l.place l.preds) (drop l.place l.rows)) ≡ map turn_of (graph_of l.preds l.rows)
