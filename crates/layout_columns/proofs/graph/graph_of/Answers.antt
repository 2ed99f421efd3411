use Rattle.std.proofs.Common.{ℕ, List, map, ap, subst}
use Rattle.std.proofs.lemmas.Result.{IfOk-weaker}
use Rattle.pred_colour_meaning.specs.Interference.{IsInterference}
use Rattle.pred_colour.specs.Entities.{preds_of}
use Rattle.shredder.specs.Items.{item_of}
use Rattle.layout_columns.proofs.ByEntity.{items_interfere}
use Rattle.layout_columns.proofs.graph.graph_of.Goals as goal

pub returns : goal.returns
returns c =
    IfOk-weaker c.interference.result _ _
    (λ g e. items_interfere (map preds_of c.in_ok-list.list.items) c.in_ok-entities.entities.entries g (map item_of c.args.placed.now) c.in_ok-list.ensures.joined c.in_ok-entities.ensures.rising
    c.in_ok-entities.ensures.preds
    (subst (λ (es : List (List ℕ)). IsInterference es g) (ap (map preds_of) c.as_slice.ensures.value) e))
    c.interference.ensures
