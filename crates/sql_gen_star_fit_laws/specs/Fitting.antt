-- What the laws of a star's steps ask, of a star of a leaf (this project's own).
use Rattle.std.specs.Prelude.{Bool, true, not, nat_le, List, length}
use Rattle.std.specs.List.{list_any}
use Rattle.rdf_meaning.specs.Terms.{same_term}
use Rattle.rdf_meaning.specs.declared.side.SideName.{SideName}
use Rattle.rdf_meaning.specs.declared.side.SideName.TheVariants.{Direct, Reverse}
use Rattle.layout_meaning.specs.Columns.{ColumnsOf}
use Rattle.layout_meaning.specs.Facts.{IdOf}
use Rattle.layout_standing_meaning.specs.Schemas.{LayoutOf}
use Rattle.layout_standing_meaning.specs.Contents.{SideContents, Contents}
use Rattle.layout_facts_meaning.specs.Facts.{terms_named}
use Rattle.query_meaning.specs.declared.pattern.Slot.{Slot}
use Rattle.query_meaning.specs.declared.pattern.Slot.TheVariants.{Var, Const}
use Rattle.query_plan_meaning.specs.declared.star.Arm.{Arm}
use Rattle.query_plan_meaning.specs.declared.star.Star.{Star}
use Rattle.query_plan_meaning.specs.declared.star.StarBody.{StarBody}
use Rattle.query_plan_meaning.specs.declared.star.StarBody.TheVariants.{Both, Either}
use Rattle.query_plan_meaning.specs.Stars.{arms_of}
use Rattle.sql_gen_step_laws.specs.Carried.{Ids}
use Rattle.sql_gen_star_solution_laws.specs.StarArms.{required_vars, entity_vars, AllFresh}

-- ---- optional arms

abbrev pub IsFreshBody : Ids → Slot → StarBody → Type 0
IsFreshBody ids x (Both required optional) = AllFresh ids (required_vars ids (entity_vars ids x) required) optional
IsFreshBody ids x (Either left right) = Unit {0}

-- each optional value is a variable that isn't bound before
abbrev pub HasFreshValues : Ids → Star → Type 0
HasFreshValues ids star = IsFreshBody ids star.entity star.body

-- ---- which rows are read

-- several arms are read from the rows of number 0 alone, and one arm from all rows; an Either star has several
abbrev pub reads_first : StarBody → Bool
reads_first body = not (nat_le (length (arms_of body)) 1)

-- a constant is one of the terms that have ids
abbrev pub is_named : List IdOf → Slot → Bool
is_named ids (Const t) = list_any (same_term t) (terms_named ids)
is_named ids (Var v) = true

abbrev pub names_predicate : List IdOf → Arm → Bool
names_predicate ids a = is_named ids a.pred

-- ---- sides by their names

abbrev pub columns_of_side : SideName → LayoutOf → ColumnsOf
columns_of_side Direct layout = layout.direct
columns_of_side Reverse layout = layout.reverse

abbrev pub contents_of_side : SideName → Contents → SideContents
contents_of_side Direct c = c.direct
contents_of_side Reverse c = c.reverse
