-- The five tables of the hashed layout: their names and columns (this project's own).
use Rattle.std.specs.Prelude.{ℕ, zero, suc, ◌+◌, List, [], ◌∷◌, ◌++◌, codes}
use Rattle.std.specs.Fmt.{decimal}
use Rattle.table_meaning.specs.declared.kind.Kind.TheVariants as kinds
use Rattle.table_meaning.specs.declared.cell.Cell.{Cell}
use Rattle.table_meaning.specs.declared.schema.Column.{Column}
use Rattle.table_meaning.specs.Tables.{NamedTable}
use Rattle.layout_meaning.specs.Columns.{ColumnsOf}

-- the columns of both sides
pub record LayoutOf : Type 0 where
  pub direct : ColumnsOf
  pub reverse : ColumnsOf

abbrev pub int_column : List ℕ → Column
int_column name = record { name = name; kind = kinds.Int }

abbrev pub text_column : List ℕ → Column
text_column name = record { name = name; kind = kinds.Text }

-- this many pairs of columns, numbered on from `at`: pred1, val1, ..
abbrev pub pair_columns : ℕ → ℕ → List Column
pair_columns zero at = []
pair_columns (suc n) at = int_column (codes "pred" ++ decimal at) ∷ int_column (codes "val" ++ decimal at) ∷ pair_columns n (at + 1)

abbrev pub primary_schema : ℕ → List Column
primary_schema k = int_column (codes "entry") ∷ int_column (codes "spill") ∷ pair_columns k 1

abbrev pub list_schema : List Column
list_schema = int_column (codes "lid") ∷ int_column (codes "elm") ∷ []

abbrev pub term_schema : List Column
term_schema = int_column (codes "id") ∷ int_column (codes "cls") ∷ int_column (codes "num") ∷ text_column (codes "txt") ∷ text_column (codes "aux") ∷ []

-- the rows of the five tables
pub record FiveRows : Type 0 where
  pub direct : List (List Cell)
  pub direct_lists : List (List Cell)
  pub reverse : List (List Cell)
  pub reverse_lists : List (List Cell)
  pub terms : List (List Cell)

abbrev pub table_of : List ℕ → List Column → List (List Cell) → NamedTable
table_of name schema rows = record { name = name; schema = schema; rows = rows }

-- exactly five tables, in this order
abbrev pub five_tables : LayoutOf → FiveRows → List NamedTable
five_tables layout rows =
    table_of (codes "DPH") (primary_schema layout.direct.count) rows.direct
    ∷ table_of (codes "DS") list_schema rows.direct_lists
    ∷ table_of (codes "RPH") (primary_schema layout.reverse.count) rows.reverse
    ∷ table_of (codes "RS") list_schema rows.reverse_lists
    ∷ table_of (codes "TERM") term_schema rows.terms
    ∷ []
