-- The schemas of tables, one after another.
use Rattle.std.proofs.Common.{◌≡◌, ℕ, ◌+◌, ◌<◌, ◌≤◌, true, List, [], ◌∷◌, ◌++◌, map, length, drop, refl, sym, ap, ap₂, ◌∙◌, append_assoc}
use Rattle.std.proofs.lemmas.Bool.{and_parts}
use Rattle.std.proofs.lemmas.List.{drop_more, drop_all, append-nil}
use Rattle.std.proofs.lemmas.Option.{unwrap_or-slice_get}
use Rattle.table_meaning.specs.declared.schema.Column.{Column}
use Rattle.table_meaning.specs.Schemas.{are_distinct}
use Rattle.table_meaning.specs.Tables.{NamedTable, table_at, no_table, table_name, is_table_set, is_table}
use Rattle.std.specs.List.{list_all}
use Rattle.sql_rows_meaning.specs.declared.schema.NamedSchema.{NamedSchema}
use Rattle.sql_rows_meaning.specs.Scopes.{schemas_in}

left_at : (tables : List NamedTable) (t : ℕ) → t < length tables → drop t tables ≡ table_at tables t ∷ drop (t + 1) tables
left_at tables t lt = drop_more tables t no_table lt ∙ ap (λ (x : NamedTable). x ∷ drop (t + 1) tables) (sym (unwrap_or-slice_get tables t no_table))

-- with the name and the columns of the next table, there is its schema
pub schema_pushed : (before : List NamedSchema) (tables : List NamedTable) (t : ℕ) (name : List ℕ) (schema : List Column) → t < length tables
    → name ≡ (table_at tables t).name → schema ≡ (table_at tables t).schema → before ++ schemas_in (drop t tables) ≡ schemas_in tables
    → (before ++ record { name = name; schema = schema } ∷ []) ++ schemas_in (drop (t + 1) tables) ≡ schemas_in tables
schema_pushed before tables t name schema lt n c e =
    append_assoc before (record { name = name; schema = schema } ∷ []) (schemas_in (drop (t + 1) tables))
    ∙ ap₂ (λ (n : List ℕ) (c : List Column). before ++ record { name = n; schema = c } ∷ schemas_in (drop (t + 1) tables)) n c
    ∙ ap (λ (rest : List NamedTable). before ++ schemas_in rest) (sym (left_at tables t lt)) ∙ e

pub none_left : (before : List NamedSchema) (tables : List NamedTable) (t : ℕ) → length tables ≤ t → before ++ schemas_in (drop t tables) ≡ schemas_in tables → before ≡ schemas_in tables
none_left before tables t le e = sym (append-nil before) ∙ ap (λ (rest : List NamedTable). before ++ schemas_in rest) (sym (drop_all t tables le)) ∙ e

-- their names are those of the tables
names_same : (tables : List NamedTable) → map (λ (s : NamedSchema). s.name) (schemas_in tables) ≡ map table_name tables
names_same [] = refl
names_same (t ∷ tables) = ap (λ (names : List (List ℕ)). t.name ∷ names) (names_same tables)

-- the tables of a set have schemas under names that differ
pub names_differ : (tables : List NamedTable) (schemas : List NamedSchema) → is_table_set tables ≡ true → schemas ≡ schemas_in tables
    → are_distinct (map (λ (s : NamedSchema). s.name) schemas) ≡ true
names_differ tables schemas set e =
    ap (λ (ss : List NamedSchema). are_distinct (map (λ (s : NamedSchema). s.name) ss)) e
    ∙ ap are_distinct (names_same tables) ∙ (and_parts (are_distinct (map table_name tables)) (list_all is_table tables) set).0
