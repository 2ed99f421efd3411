-- The name of a variable stands at its place.
use Rattle.std.proofs.Common.{◌≡◌, ℕ, List, [], sym, ap, ◌∙◌}
use Rattle.std.specs.Prelude.{Option, Some, None, slice_get, slice_index_or, unwrap_or}
use Rattle.std.proofs.lemmas.Option.{unwrap_or-slice_get}

pub named_at : (names : List (List ℕ)) (v : ℕ) (name : List ℕ) → slice_get names v ≡ Some name → name ≡ slice_index_or names v []
named_at names v name e = sym (ap (λ (o : Option (List ℕ)). unwrap_or o []) e) ∙ unwrap_or-slice_get names v []

pub unnamed_at : (names : List (List ℕ)) (v : ℕ) → slice_get names v ≡ None → [] ≡ slice_index_or names v []
unnamed_at names v e = sym (ap (λ (o : Option (List ℕ)). unwrap_or o []) e) ∙ unwrap_or-slice_get names v []
