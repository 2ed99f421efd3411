-- Names looked up among tables and steps.
use Rattle.std.proofs.Common.{◌≡◌, ℕ, zero, suc, ◌+◌, ◌<◌, Bool, true, false, List, [], ◌∷◌, ◌++◌, map, length, take, get_or, Option, Some, None, refl, sym, ap, ◌∙◌, arith}
use Rattle.std.specs.Prelude.{not, if◌then◌else◌, cond}
use Rattle.std.proofs.lemmas.Bool.{and_parts}
use Rattle.std.proofs.lemmas.List.{take_more, map-append}
use Rattle.std.specs.List.{list_any, position, position_or_len}
use Rattle.std.specs.Map.{lookup, keys_of}
use Rattle.std.specs.Str.{bytes_eq}
use Rattle.table_meaning.specs.declared.schema.Column.{Column}
use Rattle.rdf_meaning.specs.Terms.{is_empty}
use Rattle.table_meaning.specs.Schemas.{are_distinct, is_schema, column_names}
use Rattle.sql_rows_meaning.specs.declared.schema.NamedSchema.{NamedSchema}
use Rattle.sql_rows_meaning.specs.Scopes.{schemas_of}
use Rattle.sql_bind_laws.specs.Places.{number_of}
use Rattle.sql_bind_names.specs.Entries.{named, all_named}
use Rattle.sql_bind_names.proofs.Texts.{turned, not_left, other, place-is}

abbrev Entries : Type 0
Entries = List (List ℕ × List Column)

number-counted : (es : Entries) (name : List ℕ) → position_or_len (bytes_eq name) (keys_of es) ≡ number_of (all_named es) name
number-counted [] name = refl
number-counted (e ∷ es) name = at (bytes_eq name e.0) (number-counted es name)
  where
    at : (b : Bool) → position_or_len (bytes_eq name) (keys_of es) ≡ number_of (all_named es) name → cond (not b) (1 + position_or_len (bytes_eq name) (keys_of es)) 0 ≡ (if b then 0 else suc (number_of (all_named es) name))
    at true h = refl
    at false h = let e : 1 + position_or_len (bytes_eq name) (keys_of es) ≡ suc (position_or_len (bytes_eq name) (keys_of es)) = omega arith in e ∙ ap suc h

pub schemas-looked_up : (es : Entries) (name : List ℕ) → schemas_of (all_named es) name ≡ lookup (bytes_eq name) es
schemas-looked_up [] name = refl
schemas-looked_up (e ∷ es) name = ap (λ (rest : Option (List Column)). if bytes_eq name e.0 then Some e.1 else rest) (schemas-looked_up es name)

pub number-found : (es : Entries) (name : List ℕ) (n : ℕ) → Some n ≡ position (bytes_eq name) (keys_of es) → n ≡ number_of (all_named es) name
number-found es name n h = place-is (bytes_eq name) (keys_of es) n h ∙ number-counted es name

pub columns-found : (es : Entries) (name : List ℕ) (columns : List Column) → Some columns ≡ lookup (bytes_eq name) es → schemas_of (all_named es) name ≡ Some columns
columns-found es name columns h = schemas-looked_up es name ∙ sym h

pub none-found : (es : Entries) (name : List ℕ) → None ≡ lookup (bytes_eq name) es → schemas_of (all_named es) name ≡ None
none-found es name h = schemas-looked_up es name ∙ sym h

pub not-there : (es : Entries) (name : List ℕ) → schemas_of (all_named es) name ≡ None → lookup (bytes_eq name) es ≡ None
not-there es name h = sym (schemas-looked_up es name) ∙ h

pub one_more : (es : Entries) (name : List ℕ) (columns : List Column) → all_named (es ++ (name, columns) ∷ []) ≡ all_named es ++ record { name = name; schema = columns } ∷ []
one_more es name columns = map-append named es ((name, columns) ∷ [])

-- ---- the given tables

abbrev name_of : NamedSchema → List ℕ
name_of s = s.name

absent-before : (schemas : List NamedSchema) (i : ℕ) (x : NamedSchema) → are_distinct (map name_of schemas) ≡ true → i < length schemas → x ≡ get_or schemas i x → schemas_of (take i schemas) x.name ≡ None
absent-before [] i x h within is = absurd (omega arith)
absent-before (s ∷ schemas) zero x h within is = refl
absent-before (s ∷ schemas) (suc j) x h within is =
    let p = not_left (list_any (bytes_eq s.name) (map name_of schemas)) (are_distinct (map name_of schemas)) h in
    let within' : j < length schemas = omega arith in
    let apart : bytes_eq x.name s.name ≡ false = turned s.name x.name (other name_of s.name schemas j x p.0 within' is) in
    rw apart (absent-before schemas j x p.1 within' is)

pub absent_yet : (schemas known : List NamedSchema) (i : ℕ) (x : NamedSchema) → are_distinct (map (λ (s : NamedSchema). s.name) schemas) ≡ true → i < length schemas → x ≡ get_or schemas i x → known ≡ take i schemas → schemas_of known x.name ≡ None
absent_yet schemas known i x h within is was = ap (λ (l : List NamedSchema). schemas_of l x.name) was ∙ absent-before schemas i x h within is

pub taken_next : (schemas : List NamedSchema) (es new : Entries) (i : ℕ) (x : NamedSchema) → i < length schemas → x ≡ get_or schemas i x → all_named es ≡ take i schemas → new ≡ es ++ (x.name, x.schema) ∷ [] → all_named new ≡ take (i + 1) schemas
taken_next schemas es new i x within is was made =
    ap all_named made ∙ one_more es x.name x.schema ∙ ap (λ (l : List NamedSchema). l ++ x ∷ []) was ∙ ap (λ (y : NamedSchema). take i schemas ++ y ∷ []) is ∙ sym (take_more schemas i x within)

-- the names of a schema differ
pub names_differ : (columns : List Column) → is_schema columns ≡ true → are_distinct (column_names columns) ≡ true
names_differ columns h = (and_parts (not (is_empty columns)) (are_distinct (column_names columns)) h).1
