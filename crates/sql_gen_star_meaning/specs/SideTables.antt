-- The two tables of a side, as a script reads them; stated once for either side (this project's own).
use Rattle.std.specs.Prelude.{◌≡◌, ℕ, ◌+◌, List, ◌++◌, map, Option, Some, None, pos, codes}
use Rattle.std.specs.Fmt.{decimal}
use Rattle.std.specs.List.{flat_map}
use Rattle.bags.specs.Bag.{SameBag}
use Rattle.table_meaning.specs.declared.cell.Cell.{Cell}
use Rattle.table_meaning.specs.declared.cell.Cell.TheVariants.{Null, Int}
use Rattle.table_meaning.specs.Schemas.{column_names}
use Rattle.sql_rows_meaning.specs.Tables.{Relation}
use Rattle.layout_meaning.specs.declared.value.Value.{Value}
use Rattle.layout_standing_meaning.specs.Schemas.{primary_schema, list_schema}
use Rattle.layout_standing_meaning.specs.Contents.{SideContents, value_cell, row_cells, element_cells}
use Rattle.sql_gen_step_laws.specs.Carried.{Name}

-- the columns of the primary table, and of the table of lists
abbrev pub entry_name : Name
entry_name = codes "entry"

abbrev pub spill_name : Name
spill_name = codes "spill"

-- columns are counted from 0, and their names from 1
abbrev pub pred_name : ℕ → Name
pred_name c = codes "pred" ++ decimal (c + 1)

abbrev pub val_name : ℕ → Name
val_name c = codes "val" ++ decimal (c + 1)

abbrev pub lid_name : Name
lid_name = codes "lid"

abbrev pub elm_name : Name
elm_name = codes "elm"

-- all columns of both
abbrev pub primary_columns : ℕ → List Name
primary_columns k = column_names (primary_schema k)

abbrev pub list_columns : List Name
list_columns = column_names list_schema

-- both tables of a side of k columns, whose rows may come in any order
pub record HoldsSide (k : ℕ) (s : SideContents) (primary lists : Relation) : Type 0 where
  pub primary_names : primary.columns ≡ primary_columns k
  pub primary_rows : SameBag primary.rows (map row_cells s.rows)
  pub list_names : lists.columns ≡ list_columns
  pub list_rows : SameBag lists.rows (flat_map element_cells s.lists)

-- ---- cells

-- an id, or null
abbrev pub id_or_null : Option ℕ → Cell
id_or_null None = Null
id_or_null (Some n) = Int (pos n)

-- the cell of a value, or null
abbrev pub value_or_null : Option Value → Cell
value_or_null None = Null
value_or_null (Some v) = value_cell v
