use Rattle.std.proofs.Common.{◌∙◌, ap, map, subst, List, ℕ}
use Rattle.pred_colour_meaning.specs.Interference.{has, IsInterference}
use Rattle.pred_colour.specs.Entities.{preds_of}
use Rattle.pred_colour.specs.GraphRows.{graph_of}
use Rattle.pred_colour.proofs.Neighbourhood.{interferes}
use Rattle.pred_colour.proofs.graph.interference.Goals as goal

pub returns : goal.returns
returns c =
    let entities = map preds_of c.args.entities.now in
    let rows = c.in_ok-rows.rows.items in
    subst (λ (preds : List ℕ). IsInterference entities (graph_of preds rows)) c.as_slice.ensures.value
    (interferes entities c.as_slice.result.now rows c.in_ok-rows.ensures.rows (λ p. ap (has p) c.as_slice.ensures.value ∙ c.in_ok-preds.ensures.all p) c.in_ok-rows.ensures.joined)
