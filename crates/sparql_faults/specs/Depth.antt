-- The brackets that stay open behind a closing one.
use Rattle.std.specs.Prelude.{Bool, List, [], ◌∷◌}

abbrev pub without_last : List Bool → List Bool
without_last [] = []
without_last (b ∷ bs) = bs
