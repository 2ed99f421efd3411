-- The predicates of an entity, plainly.
use Rattle.std.specs.Prelude.{ℕ, nat_eq, not, ◌&&◌, Bool, List}
use Rattle.pred_colour_meaning.specs.Interference.{has}
use Rattle.pred_colour.specs.declared.graph.EntityPreds.{EntityPreds}

abbrev pub preds_of : EntityPreds → List ℕ
preds_of e = e.preds.items

-- an entity has p, and q besides
abbrev pub are_joined : ℕ → ℕ → List ℕ → Bool
are_joined p q preds = has p preds && (not (nat_eq q p) && has q preds)
