-- Names of shown variables.
use Rattle.std.specs.Prelude.{ℕ, List, ◌∷◌}

-- behind `?`
abbrev pub asked : List ℕ → List ℕ
asked name = 63 ∷ name
