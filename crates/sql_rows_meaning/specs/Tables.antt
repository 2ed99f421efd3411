-- Tables that a script may name: those that are given, and its earlier steps (this project's own).
use Rattle.std.specs.Prelude.{ℕ, if◌then◌else◌, List, [], ◌∷◌}
use Rattle.std.specs.Str.{bytes_eq}
use Rattle.table_meaning.specs.declared.cell.Cell.{Cell}
use Rattle.table_meaning.specs.declared.cell.Cell.TheVariants.{Null}
use Rattle.table_meaning.specs.Schemas.{column_names}
use Rattle.table_meaning.specs.Tables.{NamedTable}

-- the names of columns, and rows with a cell for each
pub record Relation : Type 0 where
  pub columns : List (List ℕ)
  pub rows : List (List Cell)

-- from a name to its relation
abbrev pub Relations : Type 0
Relations = List ℕ → Relation

abbrev pub no_relation : Relation
no_relation = record { columns = []; rows = [] }

-- one more relation, under a name
abbrev pub with_relation : List ℕ → Relation → Relations → Relations
with_relation name relation relations n = if bytes_eq n name then relation else relations n

-- the given tables, whose names differ
abbrev pub relations_of : List NamedTable → Relations
relations_of [] = λ name. no_relation
relations_of (t ∷ tables) = with_relation t.name (record { columns = column_names t.schema; rows = t.rows }) (relations_of tables)

-- the cell of a row under a column's name; null where the row has none
abbrev pub cell_under : List (List ℕ) → List Cell → List ℕ → Cell
cell_under [] cells name = Null
cell_under (c ∷ columns) [] name = Null
cell_under (c ∷ columns) (x ∷ cells) name = if bytes_eq c name then x else cell_under columns cells name
