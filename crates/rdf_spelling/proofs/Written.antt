use Rattle.std.proofs.Common.{◌≡◌, ℕ, List, ◌++◌}
use Rattle.std.specs.List.{flat_map}
use Rattle.rdf_spelling.specs.Fronts.{KeepsFront}

-- what a loop over bytes has written
pub record Written (f : ℕ → List ℕ) (old now done : List ℕ) : Type 0 where
  pub items : now ≡ old ++ flat_map f done
  pub kept : KeepsFront old now
