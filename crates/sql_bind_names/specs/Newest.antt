-- Sources as a SELECT's names see them: the last one stands first.
use Rattle.std.specs.Prelude.{ℕ, List, reverse, map}
use Rattle.std.specs.Borrow.{Bor}
use Rattle.table_meaning.specs.declared.schema.Column.{Column}
use Rattle.sql_rows_meaning.specs.declared.schema.NamedSchema.{NamedSchema}
use Rattle.sql_rows_meaning.specs.Scopes.{Scope}
use Rattle.sql_bind_laws.specs.Places.{seen_of}

-- a source's alias and the columns under it
abbrev pub source_of : List ℕ × Bor (List Column) → NamedSchema
source_of entry = record { name = entry.0; schema = entry.1.now }

abbrev pub newest_first : List (List ℕ × Bor (List Column)) → List NamedSchema
newest_first entries = reverse (map source_of entries)

-- the kinds that names have among sources, of which the last one stands first
abbrev pub scope_in : List NamedSchema → Scope
scope_in sources = (seen_of sources).scope
