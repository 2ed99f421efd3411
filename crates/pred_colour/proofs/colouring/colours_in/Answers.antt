use Rattle.std.proofs.Common.{sym, subst, [], List, ℕ}
use Rattle.std.specs.Map.{keys_of}
use Rattle.pred_colour_meaning.specs.Colouring.{AreColours}
use Rattle.pred_colour_meaning.proofs.Made.{no_colours}
use Rattle.pred_colour.specs.Given.{pairs_of}
use Rattle.pred_colour.proofs.Seen.{no_columns}
use Rattle.pred_colour.proofs.colouring.colours_in.Goals as goal

pub loop-at-init : goal.loop-at-init
loop-at-init c =
    let none = c.in_ok-colours.colours in
    record {
      columns = no_columns (keys_of c.args.graph.now) c.args.k (pairs_of none) none.places.items c.in_ok-colours.ensures.none c.in_ok-colours.ensures.places;
      turns = subst (λ (xs : List (ℕ × ℕ)). AreColours c.args.graph.now c.args.k [] xs) (sym c.in_ok-colours.ensures.none) (no_colours c.args.graph.now c.args.k);
    }
