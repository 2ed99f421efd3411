-- Names looked up among columns.
use Rattle.std.proofs.Common.{◌≡◌, ℕ, zero, suc, ◌+◌, ◌<◌, Bool, true, false, List, [], ◌∷◌, ◌++◌, length, take, get_or, Option, Some, None, refl, sym, ap, ◌∙◌, arith}
use Rattle.std.specs.Prelude.{not, if◌then◌else◌, cond}
use Rattle.std.proofs.lemmas.List.{take_more, map-append}
use Rattle.std.specs.List.{list_any, position, position_or_len}
use Rattle.std.specs.Map.{lookup, keys_of}
use Rattle.std.specs.Str.{bytes_eq}
use Rattle.table_meaning.specs.declared.kind.Kind.{Kind}
use Rattle.table_meaning.specs.declared.schema.Column.{Column}
use Rattle.table_meaning.specs.Schemas.{are_distinct, column_name, column_names}
use Rattle.sql_rows_meaning.specs.Scopes.{kind_under}
use Rattle.sql_bind_meaning.specs.declared.expression.BoundExpr.{BoundExpr}
use Rattle.sql_bind_meaning.specs.declared.expression.BoundExpr.TheVariants as v
use Rattle.sql_bind_laws.specs.Places.{column_place}
use Rattle.sql_bind_names.specs.Entries.{column_of, all_columns}
use Rattle.sql_bind_names.specs.Found.{Finds}
use Rattle.sql_bind_names.proofs.Texts.{flipped, not_left, other, place-is}

abbrev Kinds : Type 0
Kinds = List (List ℕ × Kind)

kind-looked_up : (es : Kinds) (name : List ℕ) → kind_under (all_columns es) name ≡ lookup (bytes_eq name) es
kind-looked_up [] name = refl
kind-looked_up (e ∷ es) name =
    ap (λ (b : Bool). if b then Some e.1 else kind_under (all_columns es) name) (flipped e.0 name) ∙ ap (λ (rest : Option Kind). if bytes_eq name e.0 then Some e.1 else rest) (kind-looked_up es name)

place-counted : (es : Kinds) (name : List ℕ) (source n : ℕ) (k : Kind) → lookup (bytes_eq name) es ≡ Some k → column_place source n (all_columns es) name ≡ v.Cell source (n + position_or_len (bytes_eq name) (keys_of es))
place-counted [] name source n k h = cc
place-counted (e ∷ es) name source n k h =
    ap (λ (b : Bool). if b then v.Cell source n else column_place source (suc n) (all_columns es) name) (flipped e.0 name) ∙ at (bytes_eq name e.0) (place-counted es name source (suc n) k) h
  where
    at : (b : Bool) → (lookup (bytes_eq name) es ≡ Some k → column_place source (suc n) (all_columns es) name ≡ v.Cell source (suc n + position_or_len (bytes_eq name) (keys_of es))) → cond b (Some e.1) (lookup (bytes_eq name) es) ≡ Some k →
        (if b then v.Cell source n else column_place source (suc n) (all_columns es) name) ≡ v.Cell source (n + cond (not b) (1 + position_or_len (bytes_eq name) (keys_of es)) 0)
    at true rest h = let same : n ≡ n + 0 = omega arith in ap (v.Cell source) same
    at false rest h =
        let same : suc n + position_or_len (bytes_eq name) (keys_of es) ≡ n + (1 + position_or_len (bytes_eq name) (keys_of es)) = omega arith in
        rest h ∙ ap (v.Cell source) same

pub column_found : (es : Kinds) (name : List ℕ) (source n : ℕ) (k : Kind) → Some n ≡ position (bytes_eq name) (keys_of es) → Some k ≡ lookup (bytes_eq name) es →
    Finds (kind_under (all_columns es) name) (column_place source 0 (all_columns es) name) (Some (record { kind = k; source = source; column = n }))
column_found es name source n k at found =
    let here : n ≡ position_or_len (bytes_eq name) (keys_of es) = place-is (bytes_eq name) (keys_of es) n at in
    let same : 0 + position_or_len (bytes_eq name) (keys_of es) ≡ n = omega arith in
    (kind-looked_up es name ∙ sym found, place-counted es name source 0 k (sym found) ∙ ap (v.Cell source) same)

pub column_missing : (es : Kinds) (name : List ℕ) (place : BoundExpr) → None ≡ lookup (bytes_eq name) es → Finds (kind_under (all_columns es) name) place None
column_missing es name place h = kind-looked_up es name ∙ sym h

pub not-there : (es : Kinds) (name : List ℕ) → kind_under (all_columns es) name ≡ None → lookup (bytes_eq name) es ≡ None
not-there es name h = sym (kind-looked_up es name) ∙ h

-- ---- columns whose names differ

absent-before : (columns : List Column) (i : ℕ) (x : Column) → are_distinct (column_names columns) ≡ true → i < length columns → x ≡ get_or columns i x → kind_under (take i columns) x.name ≡ None
absent-before [] i x h within is = absurd (omega arith)
absent-before (c ∷ columns) zero x h within is = refl
absent-before (c ∷ columns) (suc j) x h within is =
    let p = not_left (list_any (bytes_eq c.name) (column_names columns)) (are_distinct (column_names columns)) h in
    let within' : j < length columns = omega arith in
    let apart : bytes_eq c.name x.name ≡ false = other column_name c.name columns j x p.0 within' is in
    rw apart (absent-before columns j x p.1 within' is)

pub absent_yet : (columns known : List Column) (i : ℕ) (x : Column) → are_distinct (column_names columns) ≡ true → i < length columns → x ≡ get_or columns i x → known ≡ take i columns → kind_under known x.name ≡ None
absent_yet columns known i x h within is was = ap (λ (l : List Column). kind_under l x.name) was ∙ absent-before columns i x h within is

pub taken_next : (columns : List Column) (es new : Kinds) (i : ℕ) (x : Column) → i < length columns → x ≡ get_or columns i x → all_columns es ≡ take i columns → new ≡ es ++ (x.name, x.kind) ∷ [] → all_columns new ≡ take (i + 1) columns
taken_next columns es new i x within is was made =
    ap all_columns made ∙ map-append column_of es ((x.name, x.kind) ∷ []) ∙ ap (λ (l : List Column). l ++ x ∷ []) was ∙ ap (λ (y : Column). take i columns ++ y ∷ []) is ∙ sym (take_more columns i x within)
