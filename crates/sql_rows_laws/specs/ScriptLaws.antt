-- The rows of a script that binds are rows of its columns.
use Rattle.std.specs.Prelude.{◌≡◌, ◌⊎◌, ℕ, ◌+◌, Bool, true, false, if◌then◌else◌, ◌&&◌, List, [], ◌∷◌, length, Some, None, is_some, refl, Ok, Err}
use Rattle.std.proofs.Common.{sym, ap, ap₂, ◌∙◌, subst, inl, inr}
use Rattle.std.proofs.lemmas.Bool.{cases_Bool, and_parts, and_from}
use Rattle.std.proofs.lemmas.Slice.Eq.{bytes_eq-Decides}
use Rattle.std.specs.List.{list_all, flat_map}
use Rattle.std.specs.Str.{bytes_eq}
use Rattle.bags.specs.BagLaws.{each-append}
use Rattle.table_meaning.specs.declared.cell.Cell.{Cell}
use Rattle.table_meaning.specs.declared.schema.Column.{Column}
use Rattle.table_meaning.specs.Schemas.{is_schema, column_names}
use Rattle.table_meaning.specs.Tables.{NamedTable, is_row, are_rows, is_table}
use Rattle.sql_meaning.specs.declared.script.Core.{Core}
use Rattle.sql_meaning.specs.declared.script.Body.{Body}
use Rattle.sql_meaning.specs.declared.script.Step.{Step}
use Rattle.sql_meaning.specs.declared.script.Script.{Script}
use Rattle.sql_rows_meaning.specs.Tables.{Relation, Relations, with_relation, relations_of}
use Rattle.sql_rows_meaning.specs.Selects.{select_rows}
use Rattle.sql_rows_meaning.specs.Rows.{body_names, body_rows, body_relation, after_steps, script_rows}
use Rattle.sql_rows_meaning.specs.declared.fault.FaultKind.{FaultKind}
use Rattle.sql_rows_meaning.specs.declared.fault.FaultKind.TheVariants.{Twice}
use Rattle.sql_rows_meaning.specs.Faults.{Checked, unless, in_select}
use Rattle.sql_rows_meaning.specs.Scopes.{Schemas, with_schema, schemas_of, schemas_in}
use Rattle.sql_rows_meaning.specs.Checks.{same_kind}
use Rattle.sql_rows_meaning.specs.Binding.{check_select, check_others, check_body, check_step_body, check_steps, check_script, same_columns}
use Rattle.sql_rows_laws.specs.KindLaws.{went, fine-same, kind-is}
use Rattle.sql_rows_laws.specs.SourceLaws.{IsRelationOf, AreRelationsOf, some-same, unless-fine}
use Rattle.sql_rows_laws.specs.SelectLaws.{RowsOf, select-names, select-fits, like-first}

pub in_select-is : {X : Type 0} (n : ℕ) (c : Checked FaultKind X) (x : X) → in_select n c ≡ Ok x → c ≡ Ok x
in_select-is n (Ok y) x h = ap Ok (fine-same y x h)
in_select-is n (Err e) x h = cc

columns-same : (cs ds : List Column) → same_columns cs ds ≡ true → cs ≡ ds
columns-same [] [] h = refl
columns-same [] (d ∷ ds) h = cc
columns-same (c ∷ cs) [] h = cc
columns-same (c ∷ cs) (d ∷ ds) h =
    let p = and_parts (bytes_eq c.name d.name) (same_kind c.kind d.kind && same_columns cs ds) h in
    let q = and_parts (same_kind c.kind d.kind) (same_columns cs ds) p.1 in
    let name : c.name ≡ d.name = (bytes_eq-Decides c.name d.name).0 p.0 in
    let kind = kind-is c.kind d.kind q.0 in
    let column : c ≡ d = λ i. record { name = name i; kind = kind i } in
    ap₂ (λ (e : Column) (es : List Column). e ∷ es) column (columns-same cs ds q.1)

pub others-first : (schemas : Schemas) (n : ℕ) (first : List Column) (cores : List Core) (columns : List Column) → check_others schemas n first cores ≡ Ok columns → first ≡ columns
others-first schemas n first [] columns h = fine-same first columns h
others-first schemas n first (c ∷ cores) columns h =
    let w = went (in_select n (check_select schemas (Some first) c)) (λ _. check_others schemas (n + 1) first cores) columns h in others-first schemas (n + 1) first cores columns w.later

module _ {schemas : Schemas} {relations : Relations} (fit : AreRelationsOf schemas relations) where
  others-fit : (n : ℕ) (first : List Column) (cores : List Core) (columns : List Column) → check_others schemas n first cores ≡ Ok columns → RowsOf first (flat_map (select_rows relations) cores)
  others-fit n first [] columns h = tt
  others-fit n first (c ∷ cores) columns h =
      let w = went (in_select n (check_select schemas (Some first) c)) (λ _. check_others schemas (n + 1) first cores) columns h in
      let mine : check_select schemas (Some first) c ≡ Ok w.what = in_select-is n (check_select schemas (Some first) c) w.what w.first in
      let same : first ≡ w.what = columns-same first w.what (like-first schemas first c w.what mine) in
      each-append (λ row. is_row first row ≡ true) (select_rows relations c) (flat_map (select_rows relations) cores)
      (subst (λ (cs : List Column). RowsOf cs (select_rows relations c)) (sym same) (select-fits fit (Some first) c w.what mine))
      (others-fit (n + 1) first cores columns w.later)

  body-fits : (n : ℕ) (cores : List Core) (columns : List Column) → check_body schemas n cores ≡ Ok columns → RowsOf columns (flat_map (select_rows relations) cores)
  body-fits n [] columns h = tt
  body-fits n (c ∷ cores) columns h =
      let w = went (in_select n (check_select schemas None c)) (λ first. check_others schemas (n + 1) first cores) columns h in
      let mine : check_select schemas None c ≡ Ok w.what = in_select-is n (check_select schemas None c) w.what w.first in
      subst (λ (cs : List Column). RowsOf cs (flat_map (select_rows relations) (c ∷ cores))) (others-first schemas (n + 1) w.what cores columns w.later)
      (each-append (λ row. is_row w.what row ≡ true) (select_rows relations c) (flat_map (select_rows relations) cores) (select-fits fit None c w.what mine) (others-fit (n + 1) w.what cores columns w.later))

  names-fit : (n : ℕ) (cores : List Core) (columns : List Column) → check_body schemas n cores ≡ Ok columns → body_names cores ≡ column_names columns
  names-fit n [] columns h = ap column_names (fine-same [] columns h)
  names-fit n (c ∷ cores) columns h =
      let w = went (in_select n (check_select schemas None c)) (λ first. check_others schemas (n + 1) first cores) columns h in
      let mine : check_select schemas None c ≡ Ok w.what = in_select-is n (check_select schemas None c) w.what w.first in
      select-names schemas None c w.what mine ∙ ap column_names (others-first schemas (n + 1) w.what cores columns w.later)

  -- one more relation, of a schema
  more-fit : (name : List ℕ) (schema : List Column) (r : Relation) → IsRelationOf schema r → AreRelationsOf (with_schema name schema schemas) (with_relation name r relations)
  more-fit name schema r is = record { each = λ n s e. at n s (cases_Bool (bytes_eq n name)) e }
    where
      at : (n : List ℕ) (s : List Column) → (bytes_eq n name ≡ true) ⊎ (bytes_eq n name ≡ false) → (if bytes_eq n name then Some schema else schemas n) ≡ Some s → IsRelationOf s (if bytes_eq n name then r else relations n)
      at n s (inl b) e =
          let same : schema ≡ s = some-same schema s (sym (ap (λ (t : Bool). if t then Some schema else schemas n) b) ∙ e) in
          subst (λ (q : Relation). IsRelationOf s q) (ap (λ (t : Bool). if t then r else relations n) (sym b)) (subst (λ (t : List Column). IsRelationOf t r) same is)
      at n s (inr b) e =
          subst (λ (q : Relation). IsRelationOf s q) (ap (λ (t : Bool). if t then r else relations n) (sym b)) (fit.each n s (sym (ap (λ (t : Bool). if t then Some schema else schemas n) b) ∙ e))

step-is : (schemas : Schemas) (n : ℕ) (s : Step) (columns : List Column) → check_step_body schemas n s ≡ Ok columns → check_body schemas n s.body.cores ≡ Ok columns
step-is schemas n s columns h =
    let w = went (in_select n (unless (is_some (schemas s.name)) Twice s)) (λ s. check_body schemas n s.body.cores) columns h in
    let same : s ≡ w.what = unless-fine (is_some (schemas s.name)) Twice s w.what (in_select-is n (unless (is_some (schemas s.name)) Twice s) w.what w.first) in
    ap (λ (t : Step). check_body schemas n t.body.cores) same ∙ w.later

steps-fit : (steps : List Step) (schemas : Schemas) (relations : Relations) → AreRelationsOf schemas relations → (n : ℕ) (last : Body) (columns : List Column) → check_steps n schemas steps last.cores ≡ Ok columns →
    RowsOf columns (body_rows (after_steps steps relations) last)
steps-fit [] schemas relations fit n last columns h = body-fits fit n last.cores columns h
steps-fit (s ∷ steps) schemas relations fit n last columns h =
    let w = went (check_step_body schemas n s) (λ columns. check_steps (n + length s.body.cores) (with_schema s.name columns schemas) steps last.cores) columns h in
    let body : check_body schemas n s.body.cores ≡ Ok w.what = step-is schemas n s w.what w.first in
    let is : IsRelationOf w.what (body_relation relations s.body) = record { names = names-fit fit n s.body.cores w.what body; rows = body-fits fit n s.body.cores w.what body } in
    steps-fit steps (with_schema s.name w.what schemas) (with_relation s.name (body_relation relations s.body) relations)
    (more-fit fit s.name w.what (body_relation relations s.body) is) (n + length s.body.cores) last columns w.later

-- ---- the given tables

each_row : (columns : List Column) (rows : List (List Cell)) → are_rows columns rows ≡ true → RowsOf columns rows
each_row columns [] h = tt
each_row columns (row ∷ rows) h = let p = and_parts (is_row columns row) (are_rows columns rows) h in (p.0, each_row columns rows p.1)

all_rows : (columns : List Column) (rows : List (List Cell)) → RowsOf columns rows → are_rows columns rows ≡ true
all_rows columns [] all = refl
all_rows columns (row ∷ rows) all = and_from (is_row columns row) (are_rows columns rows) all.0 (all_rows columns rows all.1)

tables-fit : (tables : List NamedTable) → list_all is_table tables ≡ true → AreRelationsOf (schemas_of (schemas_in tables)) (relations_of tables)
tables-fit [] h = record { each = λ name schema e. cc }
tables-fit (t ∷ tables) h =
    let p = and_parts (is_table t) (list_all is_table tables) h in
    let q = and_parts (is_schema t.schema) (are_rows t.schema t.rows) p.0 in
    more-fit (tables-fit tables p.1) t.name t.schema (record { columns = column_names t.schema; rows = t.rows }) (record { names = refl; rows = each_row t.schema t.rows q.1 })

-- the rows of a script that binds have a cell for each of its columns, of its kind
pub script-fits : (s : Script) (tables : List NamedTable) (columns : List Column) → list_all is_table tables ≡ true → check_script s (schemas_in tables) ≡ Ok columns → are_rows columns (script_rows s tables) ≡ true
script-fits s tables columns t h = all_rows columns (script_rows s tables) (steps-fit s.steps (schemas_of (schemas_in tables)) (relations_of tables) (tables-fit tables t) 1 s.last columns h)
