-- Entities of a loaded bulk that have one row (this project's own).
use Rattle.std.specs.Prelude.{◌≡◌, ◌≤◌, ℕ, true, is_some, List, length}
use Rattle.rdf_meaning.specs.Terms.{RdfTerm}
use Rattle.layout_meaning.specs.Columns.{known_column}
use Rattle.layout_meaning.specs.Side.{items, rows_of}
use Rattle.layout_meaning.specs.Rows.{SideOf}
use Rattle.pred_colour_meaning.specs.Interference.{has}
use Rattle.layout_standing_meaning.specs.Stored.{StoreOf, text_of_id}
use Rattle.layout_columns_meaning.specs.BulkColours.{preds_under}

-- an entity whose predicates all have a known column has its first row alone
abbrev pub KnownHaveOneRow : List RdfTerm → SideOf → Type 0
KnownHaveOneRow terms s =
    (e : ℕ) → ((p : ℕ) → has p (preds_under (items s.state) e) ≡ true → is_some (known_column s.columns.known (text_of_id terms p)) ≡ true)
    → length (rows_of s.state.entities e) ≤ 1

pub record ColouredHaveOneRow (s : StoreOf) : Type 0 where
  pub direct : KnownHaveOneRow s.terms s.direct
  pub reverse : KnownHaveOneRow s.terms s.reverse
