-- Lists read as bags.
use Rattle.std.specs.Prelude.{◌≡◌, ℕ, ◌+◌, List, [], ◌∷◌}

-- the sum of g over the items
abbrev pub total : {X : Type 0} → (X → ℕ) → List X → ℕ
total g [] = 0
total g (x ∷ xs) = g x + total g xs

-- Two lists hold each item equally often: no sum over the items tells them apart.
-- Take 1 at one item and 0 elsewhere, and the sum counts that item.
pub record SameBag {X : Type 0} (xs ys : List X) : Type 0 where
  pub totals : (g : X → ℕ) → total g xs ≡ total g ys
