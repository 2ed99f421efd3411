-- The colours that were given, as pairs.
use Rattle.std.specs.Prelude.{ℕ, List, map}
use Rattle.pred_colour.specs.Columns.{AreColumns}
use Rattle.pred_colour.specs.declared.colours.Coloured.{Coloured}
use Rattle.pred_colour.specs.declared.colours.Colours.{Colours}

abbrev pub pair_of : Coloured → ℕ × ℕ
pair_of c = (c.pred, c.column)

abbrev pub pairs_of : Colours → List (ℕ × ℕ)
pairs_of c = map pair_of c.given.items

-- they keep k sets, at whose places among these predicates stand those with each column
abbrev pub HaveColumns : List ℕ → ℕ → Colours → Type 0
HaveColumns preds k c = AreColumns preds k (pairs_of c) c.places.items
