-- Kinds, columns and schemas.
use Rattle.std.specs.Prelude.{ℕ, Bool, true, ◌&&◌, not, List, [], ◌∷◌, map}
use Rattle.std.specs.List.{list_any}
use Rattle.std.specs.Str.{bytes_eq}
use Rattle.rdf_meaning.specs.Terms.{is_empty}
use Rattle.table_meaning.specs.declared.schema.Column.{Column}

-- no text stands twice
abbrev pub are_distinct : List (List ℕ) → Bool
are_distinct [] = true
are_distinct (name ∷ names) = not (list_any (bytes_eq name) names) && are_distinct names

abbrev pub column_name : Column → List ℕ
column_name column = column.name

abbrev pub column_names : List Column → List (List ℕ)
column_names columns = map column_name columns

-- at least one column, and distinct names
abbrev pub is_schema : List Column → Bool
is_schema columns = not (is_empty columns) && are_distinct (column_names columns)
