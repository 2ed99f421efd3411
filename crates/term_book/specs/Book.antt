-- Terms and their numbers in a dictionary.
use Rattle.std.specs.Prelude.{◌≡◌, ℕ, ◌-◌, ◌≤◌, ◌<◌, ◌⊎◌, List, [], ◌∷◌, ◌++◌, length, slice_get, Some, Contains}
use Rattle.rdf_meaning.specs.Terms.{RdfTerm}

-- the term has this number in the list, whose first number is 1
abbrev pub HasId : List RdfTerm → RdfTerm → ℕ → Type 0
HasId book t id = (1 ≤ id) × (slice_get book (id - 1) ≡ Some t)

-- the list after a term was noted: as before where it is there, and else with the term last
abbrev pub IsNoted : List RdfTerm → RdfTerm → List RdfTerm → Type 0
IsNoted old t new = (Contains old t × (new ≡ old)) ⊎ ((¬ Contains old t) × (new ≡ old ++ t ∷ []))

-- the list has all the terms that it may hold, and this one isn't among them
abbrev pub IsFull : List RdfTerm → RdfTerm → Type 0
IsFull book t = (length book ≡ 4000000) × (¬ Contains book t)

-- the term stands at this place of the list
abbrev pub IsPlaceOf : List RdfTerm → RdfTerm → ℕ → Type 0
IsPlaceOf terms t at = (at < length terms) × (slice_get terms at ≡ Some t) × Contains terms t
