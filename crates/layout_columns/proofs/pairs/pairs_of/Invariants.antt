use Rattle.std.proofs.Common.{◌≡◌, ℕ, map, take}
use Rattle.layout_standing_meaning.specs.Stored.{text_of_id}
use Rattle.pred_colour.specs.Given.{pair_of}
use Rattle.pred_columns.specs.Refusal.{known_of}
use Rattle.layout_columns.proofs.pairs.pairs_of.Given as goal

abbrev pub invariant-loop-at : goal.invariant-loop-at
invariant-loop-at l = map known_of l.pairs.items ≡ map (λ (c : ℕ × ℕ). (text_of_id l.iris c.0, c.1)) (map pair_of (take l.at l.colours))
