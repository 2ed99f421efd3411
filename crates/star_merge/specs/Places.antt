-- The first item that passes a test (this project's own).
use Rattle.std.specs.Prelude.{ℕ, ◌+◌, Bool, if◌then◌else◌, List, [], ◌∷◌, Option, Some, None, option_map}

-- its place
abbrev pub first_place : {X : Type 0} → (X → Bool) → List X → Option ℕ
first_place p [] = None
first_place p (x ∷ xs) = if p x then Some 0 else option_map (λ (at : ℕ). at + 1) (first_place p xs)
