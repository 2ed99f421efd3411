-- Two checks with the same fault, or with findings that stand in a relation (this project's own).
use Rattle.std.specs.Prelude.{◌≡◌, refl, Ok, Err}
use Rattle.sql_rows_meaning.specs.Faults.{Checked, and_then}

pub data BothChecked {F X Y : Type 0} (R : X → Y → Type 0) : Checked F X → Checked F Y → Type 0 where
  both_fine : {x : X} {y : Y} → R x y → BothChecked R (Ok x) (Ok y)
  both_fault : (e : F) → BothChecked R (Err e) (Err e)

module _ {F X Y : Type 0} {R : X → Y → Type 0} where
  -- checks behind them that stand in a relation
  pub both-then : {Z W : Type 0} {S : Z → W → Type 0} (g : X → Checked F Z) (h : Y → Checked F W) → ((x : X) (y : Y) → R x y → BothChecked S (g x) (h y)) →
      {a : Checked F X} {b : Checked F Y} → BothChecked R a b → BothChecked S (and_then a g) (and_then b h)
  both-then g h next (both_fine {x} {y} r) = next x y r
  both-then g h next (both_fault e) = both_fault e

  -- checks behind them that are the same
  pub both-same : {Z : Type 0} (g : X → Checked F Z) (h : Y → Checked F Z) → ((x : X) (y : Y) → R x y → h y ≡ g x) →
      {a : Checked F X} {b : Checked F Y} → BothChecked R a b → and_then b h ≡ and_then a g
  both-same g h next (both_fine {x} {y} r) = next x y r
  both-same g h next (both_fault e) = refl
