-- The columns of a bulk (this project's own).
use Rattle.std.specs.Prelude.{◌≡◌, ◌==◌, ℕ, Bool, true, false, List, map}
use Rattle.std.specs.List.{filter}
use Rattle.layout_meaning.specs.Columns.{ColumnsOf}
use Rattle.layout_meaning.specs.Side.{Item}
use Rattle.pred_colour_meaning.specs.Interference.{Graph, IsInterference}
use Rattle.pred_colour_meaning.specs.Colouring.{IsColouring}

-- the predicates under which an entity has items
abbrev pub preds_under : List Item → ℕ → List ℕ
preds_under items e = map (λ (x : Item). x.pred) (filter (λ (x : Item). x.entity == e) items)

-- the entities of items, each by its predicates; an entity stands here once for each of its items
abbrev pub entities_of : List Item → List (List ℕ)
entities_of items = map (λ (x : Item). preds_under items x.entity) items

-- The known columns are the greedy colouring with k columns of the predicates of the items, each under its predicate's IRI.
-- Two of them interfere where some entity has both.
pub record AreBulkColours (k : ℕ) (iri_of : ℕ → List ℕ) (items : List Item) (known : List (List ℕ × ℕ)) : Type 0 where
  pub graph : Graph
  pub colours : List (ℕ × ℕ)
  pub interferes : IsInterference (entities_of items) graph
  pub coloured : IsColouring graph k colours
  pub named : known ≡ map (λ (c : ℕ × ℕ). (iri_of c.0, c.1)) colours

-- known columns are those that were chosen, or else the colours of the bulk
abbrev pub AreKnown : Bool → ColumnsOf → (ℕ → List ℕ) → List Item → List (List ℕ × ℕ) → Type 0
AreKnown false chosen iri_of items known = known ≡ chosen.known
AreKnown true chosen iri_of items known = AreBulkColours chosen.count iri_of items known

-- the columns of a side for a bulk of items
pub record AreColumnsFor (greedy : Bool) (chosen : ColumnsOf) (iri_of : ℕ → List ℕ) (items : List Item) (columns : ColumnsOf) : Type 0 where
  pub count : columns.count ≡ chosen.count
  pub hashes : columns.hashes ≡ chosen.hashes
  pub known : AreKnown greedy chosen iri_of items columns.known
