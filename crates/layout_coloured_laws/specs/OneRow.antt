-- Entities with one row (this project's own).
use Rattle.std.specs.Prelude.{◌≡◌, ◌≤◌, ℕ, true, is_some, List, map, length}
use Rattle.layout_meaning.specs.Columns.{ColumnsOf, known_column}
use Rattle.layout_meaning.specs.Side.{Item, rows_of}
use Rattle.pred_colour_meaning.specs.Interference.{has}
use Rattle.layout_bulk_meaning.specs.Bulk.{bulk_side}
use Rattle.layout_bulk_laws.specs.BulkStore.{HaveCandidates}
use Rattle.layout_columns_meaning.specs.BulkColours.{preds_under, AreBulkColours}

-- the IRIs of the predicates of items tell them apart
abbrev pub TellApart : (ℕ → List ℕ) → List Item → Type 0
TellApart iri_of items = (p q : ℕ) → has p (map (λ (x : Item). x.pred) items) ≡ true → has q (map (λ (x : Item). x.pred) items) ≡ true → iri_of p ≡ iri_of q → p ≡ q

abbrev pub ColouredEntitiesHaveOneRow : Type 0
ColouredEntitiesHaveOneRow =
    (columns : ColumnsOf) (iri_of : ℕ → List ℕ) (items : List Item) (e : ℕ) → HaveCandidates columns → TellApart iri_of items → AreBulkColours columns.count iri_of items columns.known
    → ((p : ℕ) → has p (preds_under items e) ≡ true → is_some (known_column columns.known (iri_of p)) ≡ true)
    → length (rows_of (bulk_side columns iri_of items).state.entities e) ≤ 1
