-- A script with places has the rows of the script with names.
use Rattle.std.specs.Prelude.{◌≡◌, ◌⊎◌, ℕ, suc, ◌+◌, Bool, true, false, if◌then◌else◌, List, [], ◌∷◌, ◌++◌, map, length, Option, Some, None, is_some, refl, Ok}
use Rattle.std.proofs.Common.{sym, ap, ap₂, ◌∙◌, subst, arith, inl, inr}
use Rattle.std.proofs.Math.Path.{fun_ext}
use Rattle.std.proofs.lemmas.Bool.{cases_Bool, both_ways}
use Rattle.std.proofs.lemmas.Slice.Eq.{bytes_eq-Decides}
use Rattle.std.specs.List.{flat_map}
use Rattle.std.specs.Str.{bytes_eq}
use Rattle.table_meaning.specs.declared.schema.Column.{Column}
use Rattle.table_meaning.specs.declared.cell.Cell.{Cell}
use Rattle.table_meaning.specs.Schemas.{column_names}
use Rattle.table_meaning.specs.Tables.{NamedTable}
use Rattle.sql_meaning.specs.declared.script.Core.{Core}
use Rattle.sql_meaning.specs.declared.script.Step.{Step}
use Rattle.sql_meaning.specs.declared.script.Script.{Script}
use Rattle.sql_rows_meaning.specs.declared.fault.FaultKind.TheVariants.{Twice}
use Rattle.sql_rows_meaning.specs.declared.schema.NamedSchema.{NamedSchema}
use Rattle.sql_rows_meaning.specs.Faults.{unless, in_select}
use Rattle.sql_rows_meaning.specs.Scopes.{Schemas, with_schema, schemas_of, schemas_in}
use Rattle.sql_rows_meaning.specs.Binding.{check_select, check_others, check_body, check_step_body, check_steps, check_script}
use Rattle.sql_rows_meaning.specs.Tables.{Relation, Relations, with_relation, relations_of}
use Rattle.sql_rows_meaning.specs.Selects.{select_rows}
use Rattle.sql_rows_meaning.specs.Rows.{body_names, body_rows, body_relation, after_steps, script_rows}
use Rattle.sql_rows_laws.specs.KindLaws.{went}
use Rattle.sql_rows_laws.specs.SourceLaws.{unless-fine, unless-false}
use Rattle.sql_rows_laws.specs.SelectLaws.{select-names}
use Rattle.sql_rows_laws.specs.ScriptLaws.{in_select-is, others-first}
use Rattle.sql_rows_laws.specs.KindLaws.{fine-same}
use Rattle.sql_bind_meaning.specs.Sources.{relation_rows}
use Rattle.sql_bind_meaning.specs.Selects.{bound_select_rows}
use Rattle.sql_bind_meaning.specs.Rows.{table_relations, bound_body_rows, after_bound_steps, bound_rows}
use Rattle.sql_bind_laws.specs.Places.{number_of, or_no_columns, place_core, place_body, columns_found, step_in, place_steps, all_known, place_script}
use Rattle.sql_bind_laws.specs.PlacedSelects.{AreNumbered, select-placed}

-- ---- bodies

cores-placed : {known : List NamedSchema} {relations : Relations} {rows_of : List (List (List Cell))} → AreNumbered known relations rows_of → (cores : List Core) →
    flat_map (select_rows relations) cores ≡ flat_map (bound_select_rows rows_of) (map (place_core known) cores)
cores-placed are [] = refl
cores-placed are (c ∷ cores) = ap₂ (λ (x y : List (List Cell)). x ++ y) (select-placed are c) (cores-placed are cores)

names-placed : (schemas : Schemas) (n : ℕ) (cores : List Core) (columns : List Column) → check_body schemas n cores ≡ Ok columns → body_names cores ≡ column_names columns
names-placed schemas n [] columns h = ap column_names (fine-same [] columns h)
names-placed schemas n (c ∷ cores) columns h =
    let w = went (in_select n (check_select schemas None c)) (λ first. check_others schemas (n + 1) first cores) columns h in
    let mine : check_select schemas None c ≡ Ok w.what = in_select-is n (check_select schemas None c) w.what w.first in
    select-names schemas None c w.what mine ∙ ap column_names (others-first schemas (n + 1) w.what cores columns w.later)

-- ---- one more relation

-- two names that are both this one are one
apart : (name a b : List ℕ) → bytes_eq b a ≡ false → bytes_eq name a ≡ true → bytes_eq name b ≡ false
apart name a b h e = at (cases_Bool (bytes_eq name b))
  where
    at : (bytes_eq name b ≡ true) ⊎ (bytes_eq name b ≡ false) → bytes_eq name b ≡ false
    at (inl k) =
        let one : name ≡ a = (bytes_eq-Decides name a).0 e in
        let two : name ≡ b = (bytes_eq-Decides name b).0 k in
        absurd (both_ways (bytes_eq b a) h ((bytes_eq-Decides b a).1 (sym two ∙ one)))
    at (inr k) = k

absent-here : (t k : NamedSchema) (known : List NamedSchema) → is_some (schemas_of (k ∷ known) t.name) ≡ false → (bytes_eq t.name k.name ≡ false) × (is_some (schemas_of known t.name) ≡ false)
absent-here t k known h = at (cases_Bool (bytes_eq t.name k.name))
  where
    at : (bytes_eq t.name k.name ≡ true) ⊎ (bytes_eq t.name k.name ≡ false) → (bytes_eq t.name k.name ≡ false) × (is_some (schemas_of known t.name) ≡ false)
    at (inl e) = let q : is_some (if true then Some k.schema else schemas_of known t.name) ≡ false = subst (λ (b : Bool). is_some (if b then Some k.schema else schemas_of known t.name) ≡ false) e h in cc
    at (inr e) = (e, subst (λ (b : Bool). is_some (if b then Some k.schema else schemas_of known t.name) ≡ false) e h)

-- a relation behind those that have other names
pub schemas-more : (t : NamedSchema) (known : List NamedSchema) → is_some (schemas_of known t.name) ≡ false → (name : List ℕ) →
    schemas_of (known ++ t ∷ []) name ≡ (if bytes_eq name t.name then Some t.schema else schemas_of known name)
schemas-more t [] h name = refl
schemas-more t (k ∷ known) h name = at (schemas-more t known (absent-here t k known h).1 name) (cases_Bool (bytes_eq name k.name))
  where
    p : (bytes_eq t.name k.name ≡ false) × (is_some (schemas_of known t.name) ≡ false)
    p = absent-here t k known h

    at : schemas_of (known ++ t ∷ []) name ≡ (if bytes_eq name t.name then Some t.schema else schemas_of known name) → (bytes_eq name k.name ≡ true) ⊎ (bytes_eq name k.name ≡ false) →
        (if bytes_eq name k.name then Some k.schema else schemas_of (known ++ t ∷ []) name) ≡ (if bytes_eq name t.name then Some t.schema else (if bytes_eq name k.name then Some k.schema else schemas_of known name))
    at rest (inl e) = rw (e, apart name k.name t.name p.0 e) refl
    at rest (inr e) = rw e rest

pub with-more : (t : NamedSchema) (known : List NamedSchema) → is_some (schemas_of known t.name) ≡ false → with_schema t.name t.schema (schemas_of known) ≡ schemas_of (known ++ t ∷ [])
with-more t known h = fun_ext (λ name. sym (schemas-more t known h name))

rows-more : (t : NamedSchema) (rows : List (List Cell)) (known : List NamedSchema) (rows_of : List (List (List Cell))) → length rows_of ≡ length known → is_some (schemas_of known t.name) ≡ false → (name : List ℕ) →
    relation_rows (rows_of ++ rows ∷ []) (number_of (known ++ t ∷ []) name) ≡ (if bytes_eq name t.name then rows else relation_rows rows_of (number_of known name))
rows-more t rows [] [] l h name = at (bytes_eq name t.name)
  where
    at : (b : Bool) → relation_rows (rows ∷ []) (if b then 0 else 1) ≡ (if b then rows else [])
    at true = refl
    at false = refl
rows-more t rows [] (r ∷ rows_of) l h name = absurd (omega arith)
rows-more t rows (k ∷ known) [] l h name = absurd (omega arith)
rows-more t rows (k ∷ known) (r ∷ rows_of) l h name =
    let same : length rows_of ≡ length known = omega arith in
    at (rows-more t rows known rows_of same (absent-here t k known h).1 name) (cases_Bool (bytes_eq name k.name))
  where
    p : (bytes_eq t.name k.name ≡ false) × (is_some (schemas_of known t.name) ≡ false)
    p = absent-here t k known h

    at : relation_rows (rows_of ++ rows ∷ []) (number_of (known ++ t ∷ []) name) ≡ (if bytes_eq name t.name then rows else relation_rows rows_of (number_of known name)) → (bytes_eq name k.name ≡ true) ⊎ (bytes_eq name k.name ≡ false) →
        relation_rows (r ∷ rows_of ++ rows ∷ []) (if bytes_eq name k.name then 0 else suc (number_of (known ++ t ∷ []) name)) ≡ (if bytes_eq name t.name then rows else relation_rows (r ∷ rows_of) (if bytes_eq name k.name then 0 else suc (number_of known name)))
    at rest (inl e) = rw (e, apart name k.name t.name p.0 e) refl
    at rest (inr e) = rw e rest

count-more : {X : Type 0} (xs : List X) (x : X) → length (xs ++ x ∷ []) ≡ suc (length xs)
count-more [] x = refl
count-more (y ∷ xs) x = ap suc (count-more xs x)

columns-at : (b : Bool) (r s : Relation) → (if b then r else s).columns ≡ (if b then r.columns else s.columns)
columns-at true r s = refl
columns-at false r s = refl

rows-at : (b : Bool) (r s : Relation) → (if b then r else s).rows ≡ (if b then r.rows else s.rows)
rows-at true r s = refl
rows-at false r s = refl

numbered-more : {known : List NamedSchema} {relations : Relations} {rows_of : List (List (List Cell))} → AreNumbered known relations rows_of → (t : NamedSchema) (r : Relation) → r.columns ≡ column_names t.schema →
    is_some (schemas_of known t.name) ≡ false → AreNumbered (known ++ t ∷ []) (with_relation t.name r relations) (rows_of ++ r.rows ∷ [])
numbered-more {known} {relations} {rows_of} are t r columns h = record {
  names = λ name. columns-at (bytes_eq name t.name) r (relations name) ∙ named name (bytes_eq name t.name) ∙ ap (λ (o : Option (List Column)). column_names (or_no_columns o)) (sym (schemas-more t known h name));
  rows = λ name.
      rows-at (bytes_eq name t.name) r (relations name) ∙ ap (λ (rows : List (List Cell)). if bytes_eq name t.name then r.rows else rows) (are.rows name)
      ∙ sym (rows-more t r.rows known rows_of are.count h name);
  count = count-more rows_of r.rows ∙ ap suc are.count ∙ sym (count-more known t);
}
  where
    named : (name : List ℕ) (b : Bool) → (if b then r.columns else (relations name).columns) ≡ column_names (or_no_columns (if b then Some t.schema else schemas_of known name))
    named name true = columns
    named name false = are.names name

-- ---- the given tables

tables-numbered : (tables : List NamedTable) → AreNumbered (schemas_in tables) (relations_of tables) (table_relations tables)
tables-numbered [] = record { names = λ name. refl; rows = λ name. refl; count = refl }
tables-numbered (t ∷ tables) =
    let are = tables-numbered tables in record {
      names = λ name. names-at name are (bytes_eq name t.name);
      rows = λ name. rows-of name are (bytes_eq name t.name);
      count = ap suc are.count;
    }
  where
    relation : Relation
    relation = record { columns = column_names t.schema; rows = t.rows }

    names-at : (name : List ℕ) → AreNumbered (schemas_in tables) (relations_of tables) (table_relations tables) → (b : Bool) →
        (if b then relation else relations_of tables name).columns ≡ column_names (or_no_columns (if b then Some t.schema else schemas_of (schemas_in tables) name))
    names-at name are true = refl
    names-at name are false = are.names name

    rows-of : (name : List ℕ) → AreNumbered (schemas_in tables) (relations_of tables) (table_relations tables) → (b : Bool) →
        (if b then relation else relations_of tables name).rows ≡ relation_rows (t.rows ∷ table_relations tables) (if b then 0 else suc (number_of (schemas_in tables) name))
    rows-of name are true = refl
    rows-of name are false = are.rows name

-- ---- steps

-- what is known of a step that binds
pub record IsStep (known : List NamedSchema) (n : ℕ) (s : Step) (columns : List Column) : Type 0 where
  pub new : is_some (schemas_of known s.name) ≡ false
  pub body : check_body (schemas_of known) n s.body.cores ≡ Ok columns
  pub is : step_in n known s ≡ record { name = s.name; schema = columns }

step-bound : (known : List NamedSchema) (n : ℕ) (s : Step) (columns : List Column) → check_step_body (schemas_of known) n s ≡ Ok columns → IsStep known n s columns
step-bound known n s columns h =
    let w = went (in_select n (unless (is_some (schemas_of known s.name)) Twice s)) (λ s. check_body (schemas_of known) n s.body.cores) columns h in
    let first = in_select-is n (unless (is_some (schemas_of known s.name)) Twice s) w.what w.first in
    let same : s ≡ w.what = unless-fine (is_some (schemas_of known s.name)) Twice s w.what first in
    let body : check_body (schemas_of known) n s.body.cores ≡ Ok columns = ap (λ (t : Step). check_body (schemas_of known) n t.body.cores) same ∙ w.later in
    let found = ap columns_found body in
    record { new = unless-false (is_some (schemas_of known s.name)) Twice s w.what first; body = body; is = λ i. record { name = s.name; schema = found i } }

steps-placed : (steps : List Step) (known : List NamedSchema) (relations : Relations) (rows_of : List (List (List Cell))) → AreNumbered known relations rows_of → (n : ℕ) (last : List Core) (columns : List Column) →
    check_steps n (schemas_of known) steps last ≡ Ok columns → AreNumbered (all_known n known steps) (after_steps steps relations) (after_bound_steps (place_steps n known steps) rows_of)
steps-placed [] known relations rows_of are n last columns h = are
steps-placed (s ∷ steps) known relations rows_of are n last columns h =
    let w = went (check_step_body (schemas_of known) n s) (λ columns. check_steps (n + length s.body.cores) (with_schema s.name columns (schemas_of known)) steps last) columns h in
    let step = step-bound known n s w.what w.first in
    let t : NamedSchema = record { name = s.name; schema = w.what } in
    let later : check_steps (n + length s.body.cores) (schemas_of (known ++ t ∷ [])) steps last ≡ Ok columns = ap (λ (schemas : Schemas). check_steps (n + length s.body.cores) schemas steps last) (sym (with-more t known step.new)) ∙ w.later in
    let body : body_rows relations s.body ≡ bound_body_rows rows_of (place_body known s.body.cores) = cores-placed are s.body.cores in
    let more : AreNumbered (known ++ t ∷ []) (with_relation s.name (body_relation relations s.body) relations) (rows_of ++ body_rows relations s.body ∷ []) =
    numbered-more are t (body_relation relations s.body) (names-placed (schemas_of known) n s.body.cores w.what step.body) step.new in
    let moved : AreNumbered (known ++ t ∷ []) (with_relation s.name (body_relation relations s.body) relations) (rows_of ++ bound_body_rows rows_of (place_body known s.body.cores) ∷ []) =
    subst (λ (rows : List (List Cell)). AreNumbered (known ++ t ∷ []) (with_relation s.name (body_relation relations s.body) relations) (rows_of ++ rows ∷ [])) body more in
    let all =
    steps-placed steps (known ++ t ∷ []) (with_relation s.name (body_relation relations s.body) relations) (rows_of ++ bound_body_rows rows_of (place_body known s.body.cores) ∷ []) moved (n + length s.body.cores) last columns later in
    subst (λ (u : NamedSchema).
    AreNumbered (all_known (n + length s.body.cores) (known ++ u ∷ []) steps) (after_steps steps (with_relation s.name (body_relation relations s.body) relations))
    (after_bound_steps (place_steps (n + length s.body.cores) (known ++ u ∷ []) steps) (rows_of ++ bound_body_rows rows_of (place_body known s.body.cores) ∷ [])))
    (sym step.is) all

-- the rows of a script that binds are those of its placed form
pub script-placed : (s : Script) (tables : List NamedTable) (columns : List Column) → check_script s (schemas_in tables) ≡ Ok columns → bound_rows (place_script s (schemas_in tables)) tables ≡ script_rows s tables
script-placed s tables columns h =
    sym (cores-placed (steps-placed s.steps (schemas_in tables) (relations_of tables) (table_relations tables) (tables-numbered tables) 1 s.last.cores columns h) s.last.cores)
