use Rattle.std.proofs.Common.{◌<◌, ◌∙◌, ap, sym, arith, List, ℕ}
use Rattle.std.specs.List.{list_any}
use Rattle.std.specs.Map.{keys_of}
use Rattle.pred_colour_meaning.specs.Interference.{has, neighbours_of}
use Rattle.pred_colour_meaning.specs.Colouring.{is_seen}
use Rattle.pred_colour.specs.Given.{pairs_of}
use Rattle.pred_colour.specs.GraphRows.{pred_at, stands_in}
use Rattle.pred_colour.proofs.Seen.{own_place, seen_there, seen_more}
use Rattle.pred_colour.proofs.colouring.free_column.Goals as goal

pub has_neighbour_in-requires-clause-apart : goal.has_neighbour_in-requires-clause-apart
has_neighbour_in-requires-clause-apart c =
    let column = c.loop-column.column in
    let within : column < c.args.k = omega arith in
    ap (has c.args.place) c.places.ensures
    ∙ own_place (keys_of c.args.graph.now) c.args.k (pairs_of c.args.colours.now) c.args.colours.now.places.items c.args.place column c.requires.columns within c.requires.uncoloured

pub loop-column-preserved : goal.loop-column-preserved
loop-column-preserved c =
    let column = c.loop-column.column in
    let within : column < c.args.k = omega arith in
    let keys = keys_of c.args.graph.now in
    let p = pred_at keys c.args.place in
    let given = pairs_of c.args.colours.now in
    seen_more (is_seen c.args.graph.now given p) column c.loop-column.invariant
    (sym (seen_there keys c.args.k given c.args.colours.now.places.items c.args.graph.now p column c.requires.columns within)
    ∙ ap (λ (places : List ℕ). list_any (stands_in keys places) (neighbours_of c.args.graph.now p)) (sym c.places.ensures) ∙ sym c.has_neighbour_in.ensures ∙ c.if-not-has_neighbour_in.false)
