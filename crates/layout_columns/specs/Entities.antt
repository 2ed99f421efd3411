-- Entities and their predicates, test by test.
use Rattle.std.specs.Prelude.{◌≡◌, ℕ, nat_eq, ◌&&◌, Bool, List}
use Rattle.std.specs.List.{list_any}
use Rattle.layout_meaning.specs.Side.{Item}
use Rattle.pred_colour_meaning.specs.Interference.{has}

-- the item has this entity and this predicate
abbrev pub is_pair : ℕ → ℕ → Item → Bool
is_pair e p x = nat_eq e x.entity && nat_eq p x.pred

-- both predicates are among these
abbrev pub has_both : ℕ → ℕ → List ℕ → Bool
has_both p q preds = has p preds && has q preds

-- two predicates are together in one of these just where they are in one of those
abbrev pub JoinAlike : List (List ℕ) → List (List ℕ) → Type 0
JoinAlike these those = (p q : ℕ) → list_any (has_both p q) these ≡ list_any (has_both p q) those
