use Rattle.std.proofs.Common.{subst}
use Rattle.std.specs.List.Sorted.{IsStrictlySortedBy}
use Rattle.std.specs.Map.{keys_of}
use Rattle.std.specs.Ordering.{nat_cmp}
use Rattle.pred_colour_meaning.specs.Interference.{Graph}
use Rattle.pred_colour.proofs.Neighbourhood.{keys_with_rows}
use Rattle.pred_colour.proofs.graph.Graph.turns.Goals as goal

pub returns-clause-rising : goal.returns-clause-rising
returns-clause-rising c =
    subst (λ (g : Graph). IsStrictlySortedBy nat_cmp (keys_of g)) c.self.view_is (rw (keys_with_rows c.self.inside.preds.items c.self.inside.preds.items c.self.inside.rows.items c.self.invariant.count) c.self.invariant.rising)
