use Rattle.std.proofs.Common.{◌≡◌, ◌<◌, ◌∙◌, ap, sym, subst, arith, ℕ, List, [], length}
use Rattle.std.specs.List.{list_any}
use Rattle.std.proofs.lemmas.List.{get_or_read}
use Rattle.pred_colour_meaning.specs.Interference.{has}
use Rattle.pred_colour.proofs.Neighbourhood.{preds_are_keys}
use Rattle.pred_colour.proofs.Seen.{neighbour_there}
use Rattle.pred_colour.proofs.graph.Graph.has_neighbour_in.Goals as goal

pub index-requires : goal.index-requires
index-requires c =
    let keys = preds_are_keys c.self.inside.preds.items c.self.inside.rows.items c.args.self.now c.self.view_is c.self.invariant.count in
    let within : c.args.place < length c.self.inside.preds.items = subst (λ (ks : List ℕ). c.args.place < length ks) (sym keys) c.requires.within in
    let count : length c.self.inside.rows.items ≡ length c.self.inside.preds.items = c.self.invariant.count in
    omega arith

pub returns : goal.returns
returns c =
    let preds = c.self.inside.preds.items in
    let rows = c.self.inside.rows.items in
    let keys = preds_are_keys preds rows c.args.self.now c.self.view_is c.self.invariant.count in
    let within : c.args.place < length preds = subst (λ (ks : List ℕ). c.args.place < length ks) (sym keys) c.requires.within in
    let count : length rows ≡ length preds = c.self.invariant.count in
    c.meets.ensures ∙ ap (list_any (λ n. has n c.args.places.now)) (get_or_read rows c.args.place c.index.result.now (omega arith) c.index.ensures [])
    ∙ neighbour_there preds rows c.args.self.now c.args.place c.args.places.now c.self.view_is c.self.invariant c.requires.within c.requires.below c.requires.apart
