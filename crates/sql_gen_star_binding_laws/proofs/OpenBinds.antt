-- The SELECT that opens an arm binds.
use Rattle.std.proofs.Common.{◌≡◌, ℕ, ◌⊎◌, inl, inr, true, false, ◌==◌, List, [], ◌∷◌, Some, None, pos, sym, refl, ◌∙◌}
use Rattle.std.specs.Prelude.{Ok}
use Rattle.std.proofs.lemmas.Bool.{cases_Bool, eqb-true, eq-eqb}
use Rattle.std.specs.List.{AllByRecursion}
use Rattle.table_meaning.specs.declared.kind.Kind.TheVariants as kind
use Rattle.sql_meaning.specs.declared.expression.SqlExpr.TheVariants as sql
use Rattle.sql_meaning.specs.declared.script.JoinTo.{JoinTo}
use Rattle.sql_rows_meaning.specs.Faults.{and_then}
use Rattle.sql_rows_meaning.specs.Scopes.{Scope, Schemas, Seen}
use Rattle.sql_rows_meaning.specs.Checks.{all_truths, check, check_truth}
use Rattle.sql_rows_meaning.specs.CheckLaws.{check-Int}
use Rattle.sql_rows_meaning.specs.Binding.{check_source, check_from, check_join, check_select}
use Rattle.layout_standing_meaning.specs.Schemas.{list_schema}
use Rattle.sql_gen_step_laws.specs.Carried.{Name, column}
use Rattle.sql_gen_step_laws.specs.StepSelects.{left_alias, cell_of, has}
use Rattle.sql_gen_binding_laws.specs.StepColumns.{Once, scope_with}
use Rattle.sql_gen_binding_laws.specs.StepBinds.{then_fine, name_fine, equal_fine, null_fine, first_fine, IsTest}
use Rattle.sql_gen_star_meaning.specs.declared.arm.Asked.{Asked}
use Rattle.sql_gen_star_meaning.specs.declared.arm.Asked.TheVariants.{Constant, Again, New, Maybe}
use Rattle.sql_gen_star_meaning.specs.Asked.{asked_vars, Askable}
use Rattle.sql_gen_star_meaning.specs.SideTables.{lid_name, elm_name}
use Rattle.sql_gen_star_meaning.specs.Partials.{cell_name}
use Rattle.sql_gen_star_meaning.specs.StarSelects.{list_alias, opened_sql, open_tests, or_opened, open_sql, kept_sql, open_core}
use Rattle.sql_gen_star_binding_laws.specs.StarColumns.{partial_schema}
use Rattle.sql_gen_star_binding_laws.proofs.InSight.{variable-kind, cell-kind}
use Rattle.sql_gen_star_binding_laws.proofs.Parts.{partials_bind, not_fine, where_fine, asked_once, of_more}

-- the step before, and the lists
abbrev open_scope : List ℕ → List ℕ → Scope
open_scope vs cells = scope_with list_alias list_schema (scope_with left_alias (partial_schema vs cells) (λ a c. None))

mine : (vs cells : List ℕ) (v : ℕ) → has vs v ≡ true → check (cell_of left_alias v) (open_scope vs cells) ≡ Ok kind.Int
mine vs cells v h = name_fine left_alias (column v) (open_scope vs cells) kind.Int (variable-kind vs cells v h)

kept : (vs cells : List ℕ) (i : ℕ) → has cells i ≡ true → check (kept_sql i) (open_scope vs cells) ≡ Ok kind.Int
kept vs cells i h = name_fine left_alias (cell_name i) (open_scope vs cells) kind.Int (cell-kind vs cells i h)

opened_fine : (vs cells : List ℕ) (i : ℕ) → has cells i ≡ true → check (opened_sql i) (open_scope vs cells) ≡ Ok kind.Int
opened_fine vs cells i h =
    first_fine (open_scope vs cells) (sql.Name list_alias elm_name) (sql.Name left_alias (cell_name i)) (name_fine list_alias elm_name (open_scope vs cells) kind.Int refl) (kept vs cells i h)

tests_fine : (vs cells : List ℕ) (i : ℕ) → has cells i ≡ true → (a : Asked) → Askable vs a → AllByRecursion (IsTest (open_scope vs cells)) (open_tests i a)
tests_fine vs cells i h (Constant n) ok = (equal_fine (open_scope vs cells) (opened_sql i) (sql.Int (pos n)) (opened_fine vs cells i h) (check-Int (pos n) (open_scope vs cells)), tt)
tests_fine vs cells i h (Again v) ok = (equal_fine (open_scope vs cells) (opened_sql i) (cell_of left_alias v) (opened_fine vs cells i h) (mine vs cells v ok), tt)
tests_fine vs cells i h (New v) ok =
    (not_fine (open_scope vs cells) (sql.IsNull (opened_sql i)) (null_fine (open_scope vs cells) (opened_sql i) kind.Int (opened_fine vs cells i h)), tt)
tests_fine vs cells i h (Maybe v) ok = tt

-- the new variable's column is the value, and the others are there
or_fine : (vs cells : List ℕ) (i v w : ℕ) → has cells i ≡ true → (has vs w ≡ true) ⊎ ((v == w) ≡ true) → check (or_opened i v w) (open_scope vs cells) ≡ Ok kind.Int
or_fine vs cells i v w h (inr e) =
    let same : (w == v) ≡ true = eq-eqb w v (sym (eqb-true v w e)) in
    rw same (opened_fine vs cells i h)
or_fine vs cells i v w h (inl k) = go (cases_Bool (w == v))
  where
    go : ((w == v) ≡ true) ⊎ ((w == v) ≡ false) → check (or_opened i v w) (open_scope vs cells) ≡ Ok kind.Int
    go (inl e) = rw e (opened_fine vs cells i h)
    go (inr e) = rw e (mine vs cells w k)

open-sql_fine : (vs cells : List ℕ) (i : ℕ) → has cells i ≡ true → (a : Asked) (w : ℕ) → has (asked_vars a vs) w ≡ true → check (open_sql i a w) (open_scope vs cells) ≡ Ok kind.Int
open-sql_fine vs cells i h (Constant n) w k = mine vs cells w k
open-sql_fine vs cells i h (Again v) w k = mine vs cells w k
open-sql_fine vs cells i h (New v) w k = or_fine vs cells i v w h (of_more vs v w k)
open-sql_fine vs cells i h (Maybe v) w k = or_fine vs cells i v w h (of_more vs v w k)

pub open_fine : (schemas : Schemas) (before lists : Name) (vs cells : List ℕ) → schemas before ≡ Some (partial_schema vs cells) → schemas lists ≡ Some list_schema → Once vs →
    (i : ℕ) (kept : List ℕ) (a : Asked) → has cells i ≡ true → ((j : ℕ) → has kept j ≡ true → has cells j ≡ true) → Once kept → Askable vs a →
    check_select schemas None (open_core before lists vs i kept a) ≡ Ok (partial_schema (asked_vars a vs) kept)
open_fine schemas before lists vs cells hb hl ov i ks a h within ok askable =
    let s : Scope = open_scope vs cells in
    let start : Seen = record { aliases = left_alias ∷ []; scope = scope_with left_alias (partial_schema vs cells) (λ a c. None) } in
    let seen : Seen = record { aliases = list_alias ∷ left_alias ∷ []; scope = s } in
    let on = sql.Equal (sql.Name list_alias lid_name) (kept_sql i) in
    let j : JoinTo = record { left = true; source = record { table = lists; alias = list_alias }; on = on } in
    let from : check_from schemas (Some (record { table = before; alias = left_alias })) ≡ Ok start = rw hb refl in
    let source : check_source schemas j.source start ≡ Ok seen = rw hl refl in
    let test : check on s ≡ Ok kind.Truth = equal_fine s (sql.Name list_alias lid_name) (kept_sql i) (name_fine list_alias lid_name s kind.Int refl) (kept vs cells i h) in
    let truth : check_truth on s ≡ Ok kind.Truth = then_fine (check on s) kind.Truth (λ k. all_truths (k ∷ [])) test in
    let join : check_join schemas j start ≡ Ok seen =
    then_fine (check_source schemas j.source start) seen (λ more. and_then (check_truth on more.scope) (λ k. Ok more)) source
    ∙ then_fine (check_truth on s) kind.Truth (λ k. Ok seen) truth in
    let items = partials_bind s (open_sql i a) kept_sql (asked_vars a vs) ks (open-sql_fine vs cells i h a) (λ w k. kept vs cells w (within w k)) (asked_once vs a ov askable) ok in
    let where_truth = where_fine s (open_tests i a) (tests_fine vs cells i h a askable) in
    rw from (rw join (rw items (rw where_truth refl)))
