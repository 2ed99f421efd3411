-- What is chosen of a layout, and the layout for a bulk (this project's own).
use Rattle.std.specs.Prelude.{Bool, List, map}
use Rattle.rdf_meaning.specs.Terms.{RdfTerm}
use Rattle.layout_meaning.specs.Columns.{ColumnsOf}
use Rattle.layout_meaning.specs.Side.{Item}
use Rattle.layout_standing_meaning.specs.Schemas.{LayoutOf}
use Rattle.layout_standing_meaning.specs.Sides.{turned}
use Rattle.layout_standing_meaning.specs.Stored.{text_of_id}
use Rattle.layout_columns_meaning.specs.BulkColours.{AreColumnsFor}

-- the columns of both sides that are known before a bulk, and whether the bulk's colouring stands in their place
pub record ChoiceOf : Type 0 where
  pub direct : ColumnsOf
  pub reverse : ColumnsOf
  pub greedy : Bool

-- the layout for a bulk whose items have these terms: each side for itself; a predicate's IRI is the text of its term
pub record IsLayoutFor (choice : ChoiceOf) (terms : List RdfTerm) (items : List Item) (layout : LayoutOf) : Type 0 where
  pub direct : AreColumnsFor choice.greedy choice.direct (text_of_id terms) items layout.direct
  pub reverse : AreColumnsFor choice.greedy choice.reverse (text_of_id terms) (map turned items) layout.reverse
