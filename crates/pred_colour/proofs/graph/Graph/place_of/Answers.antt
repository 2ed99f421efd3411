use Rattle.std.proofs.Common.{◌≡◌, ◌<◌, ◌∙◌, subst, false, IfSome, IfNone, ℕ, List, length}
use Rattle.pred_colour_meaning.specs.Interference.{has}
use Rattle.pred_colour.specs.GraphRows.{pred_at}
use Rattle.pred_colour.proofs.Neighbourhood.{preds_are_keys}
use Rattle.pred_colour.proofs.graph.Graph.place_of.Goals as goal

pub returns-clause-within : goal.returns-clause-within
returns-clause-within c =
    let keys = c.as_slice.ensures.value ∙ preds_are_keys c.self.inside.preds.items c.self.inside.rows.items c.args.self.now c.self.view_is c.self.invariant.count in
    subst (λ (ks : List ℕ). IfSome c.place_of.result (λ place. place < length ks)) keys c.place_of.ensures.within

pub returns-clause-found : goal.returns-clause-found
returns-clause-found c =
    let keys = c.as_slice.ensures.value ∙ preds_are_keys c.self.inside.preds.items c.self.inside.rows.items c.args.self.now c.self.view_is c.self.invariant.count in
    subst (λ (ks : List ℕ). IfSome c.place_of.result (λ place. pred_at ks place ≡ c.args.pred)) keys c.place_of.ensures.found

pub returns-clause-absent : goal.returns-clause-absent
returns-clause-absent c =
    let keys = c.as_slice.ensures.value ∙ preds_are_keys c.self.inside.preds.items c.self.inside.rows.items c.args.self.now c.self.view_is c.self.invariant.count in
    subst (λ (ks : List ℕ). IfNone c.place_of.result (has c.args.pred ks ≡ false)) keys c.place_of.ensures.absent
