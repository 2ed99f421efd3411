-- Which predicates interfere: this project's own rule.
use Rattle.std.specs.Prelude.{◌≡◌, ℕ, nat_eq, not, ◌&&◌, Bool, List, []}
use Rattle.std.specs.Option.{unwrap_or}
use Rattle.std.specs.List.{list_any, IsDistinct}
use Rattle.std.specs.List.Sorted.{IsStrictlySortedBy}
use Rattle.std.specs.Ordering.{nat_cmp}
use Rattle.std.specs.BTreeMap.{is_at}
use Rattle.std.specs.Map.{lookup, keys_of}

-- the predicates, by rising id, each with its neighbours
abbrev pub Graph : Type 0
Graph = List (ℕ × List ℕ)

abbrev pub has : ℕ → List ℕ → Bool
has p preds = list_any (nat_eq p) preds

abbrev pub neighbours_of : Graph → ℕ → List ℕ
neighbours_of g p = unwrap_or (lookup (is_at (nat_cmp p)) g) []

-- two predicates interfere where some entity has both; each entity is given by its predicates
abbrev pub interfere : List (List ℕ) → ℕ → ℕ → Bool
interfere entities p q = not (nat_eq q p) && list_any (λ preds. has p preds && has q preds) entities

-- the graph has just the predicates of the entities, and as neighbours those that interfere
pub record IsInterference (entities : List (List ℕ)) (g : Graph) : Type 0 where
  pub rising : IsStrictlySortedBy nat_cmp (keys_of g)
  pub preds : (p : ℕ) → has p (keys_of g) ≡ list_any (has p) entities
  pub once : (p : ℕ) → IsDistinct nat_eq (neighbours_of g p)
  pub joined : (p q : ℕ) → has q (neighbours_of g p) ≡ interfere entities p q
