use Rattle.std.proofs.Common.{◌∙◌, ◌||◌, ℕ, List, map, ap}
use Rattle.std.specs.List.{list_any}
use Rattle.pred_colour_meaning.specs.Interference.{has, neighbours_of}
use Rattle.shredder.specs.declared.bulk.Placed.{Placed}
use Rattle.shredder.specs.Items.{item_of}
use Rattle.layout_columns.specs.Entities.{is_pair}
use Rattle.layout_columns.proofs.Distinct.{any-moved}
use Rattle.layout_columns.proofs.entities.entities_in.Goals as goal

pub returns-clause-preds : goal.returns-clause-preds
returns-clause-preds c e p =
    c.in_ok-note_all.ensures e p
    ∙ ap (λ (es : List (ℕ × List ℕ)). has p (neighbours_of es e) || list_any (is_pair e p) (map item_of c.as_slice.result.now)) c.new-entities.ensures.empty
    ∙ ap (λ (ps : List Placed). list_any (is_pair e p) (map item_of ps)) c.as_slice.ensures.value
    ∙ any-moved (is_pair e p) c.args.placed.now c.in_ok-items.items.items c.in_ok-items.ensures
