-- What expressions may name: the columns of the sources so far (this project's own).
use Rattle.std.specs.Prelude.{ℕ, if◌then◌else◌, List, [], ◌∷◌, Option, Some, None, map}
use Rattle.std.specs.Str.{bytes_eq}
use Rattle.table_meaning.specs.declared.kind.Kind.{Kind}
use Rattle.table_meaning.specs.declared.schema.Column.{Column}
use Rattle.table_meaning.specs.Tables.{NamedTable}
use Rattle.sql_rows_meaning.specs.declared.schema.NamedSchema.{NamedSchema}

-- from an alias and a column's name to its kind
abbrev pub Scope : Type 0
Scope = List ℕ → List ℕ → Option Kind

-- the columns of each table or earlier step, or none
abbrev pub Schemas : Type 0
Schemas = List ℕ → Option (List Column)

abbrev pub with_schema : List ℕ → List Column → Schemas → Schemas
with_schema name schema schemas n = if bytes_eq n name then Some schema else schemas n

-- the given schemas, whose names differ
abbrev pub schemas_of : List NamedSchema → Schemas
schemas_of [] = λ name. None
schemas_of (s ∷ rest) = with_schema s.name s.schema (schemas_of rest)

-- the schemas of tables
abbrev pub schemas_in : List NamedTable → List NamedSchema
schemas_in tables = map (λ (t : NamedTable). record { name = t.name; schema = t.schema }) tables

abbrev pub kind_under : List Column → List ℕ → Option Kind
kind_under [] name = None
kind_under (c ∷ columns) name = if bytes_eq c.name name then Some c.kind else kind_under columns name

-- the aliases so far, and what they let expressions name
pub record Seen : Type 0 where
  pub aliases : List (List ℕ)
  pub scope : Scope

abbrev pub nothing_seen : Seen
nothing_seen = record { aliases = []; scope = λ alias column. None }

abbrev pub with_alias : List ℕ → List Column → Seen → Seen
with_alias alias schema seen = record {
  aliases = alias ∷ seen.aliases;
  scope = λ a c. if bytes_eq a alias then kind_under schema c else seen.scope a c;
}
