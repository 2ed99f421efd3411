-- Where a block stands among others.
use Rattle.std.specs.Prelude.{◌≡◌, ◌<◌, ◌≤◌, ℕ, List, Result, length, get_or}
use Rattle.std.specs.Result.{MatchResult}

-- between the lower blocks and the higher ones
pub record IsGap (block : ℕ) (es : List (ℕ × ℕ)) (place : ℕ) : Type 0 where
  pub within : place ≤ length es
  pub lower : (k : ℕ) (d : ℕ × ℕ) → k < place → (get_or es k d).0 < block
  pub higher : (k : ℕ) (d : ℕ × ℕ) → place ≤ k → k < length es → block < (get_or es k d).0

pub record IsAt (block : ℕ) (es : List (ℕ × ℕ)) (place : ℕ) : Type 0 where
  pub within : place < length es
  pub here : (d : ℕ × ℕ) → (get_or es place d).0 ≡ block

-- its place, or else the one that it would have
abbrev pub IsPlaceOf : ℕ → List (ℕ × ℕ) → Result ℕ ℕ → Type 0
IsPlaceOf block es r = MatchResult r (IsAt block es) (IsGap block es)
