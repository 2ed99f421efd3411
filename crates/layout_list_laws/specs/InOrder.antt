-- The order of lists (this project's own).
use Rattle.std.specs.Prelude.{ℕ, ◌≤◌, List, [], ◌∷◌}
use Rattle.std.specs.List.{AllByRecursion}
use Rattle.layout_meaning.specs.Side.{ValueLists}
use Rattle.layout_standing_meaning.specs.Sides.{SidesOf}

-- lists by rising number, which is by falling id
abbrev pub AreRising : ValueLists → Type 0
AreRising [] = Unit {0}
AreRising (l ∷ ls) = AllByRecursion (λ (m : ℕ × List ℕ). l.0 ≤ m.0) ls × AreRising ls

-- the lists of both sides
pub record AreInOrder (s : SidesOf) : Type 0 where
  pub direct : AreRising s.direct.state.lists
  pub reverse : AreRising s.reverse.state.lists
