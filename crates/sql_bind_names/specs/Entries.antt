-- Maps of names as lists: columns by their names, and tables and steps by theirs.
use Rattle.std.specs.Prelude.{ℕ, List, map}
use Rattle.table_meaning.specs.declared.kind.Kind.{Kind}
use Rattle.table_meaning.specs.declared.schema.Column.{Column}
use Rattle.sql_rows_meaning.specs.declared.schema.NamedSchema.{NamedSchema}

abbrev pub column_of : List ℕ × Kind → Column
column_of entry = record { name = entry.0; kind = entry.1 }

abbrev pub all_columns : List (List ℕ × Kind) → List Column
all_columns entries = map column_of entries

abbrev pub named : List ℕ × List Column → NamedSchema
named entry = record { name = entry.0; schema = entry.1 }

abbrev pub all_named : List (List ℕ × List Column) → List NamedSchema
all_named entries = map named entries
