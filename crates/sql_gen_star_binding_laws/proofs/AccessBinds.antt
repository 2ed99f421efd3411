-- The SELECT of access binds.
use Rattle.std.proofs.Common.{◌≡◌, ℕ, ◌<◌, Bool, true, false, List, [], ◌∷◌, ◌++◌, map, Some, None, pos, refl, ap₂, ◌∙◌}
use Rattle.std.specs.Prelude.{Ok}
use Rattle.std.specs.List.{list_all, AllByRecursion}
use Rattle.bags.specs.BagLaws.{each-append}
use Rattle.table_meaning.specs.declared.kind.Kind.TheVariants as kind
use Rattle.sql_meaning.specs.declared.expression.SqlExpr.TheVariants as sql
use Rattle.sql_rows_meaning.specs.declared.fault.FaultKind.{FaultKind}
use Rattle.sql_rows_meaning.specs.Faults.{Checked, and_then, all_fine}
use Rattle.sql_rows_meaning.specs.Scopes.{Scope, Schemas, Seen}
use Rattle.sql_rows_meaning.specs.Checks.{KindChecked, BranchKinds, same_kind, case_kind, check}
use Rattle.sql_rows_meaning.specs.CheckLaws.{branch_kinds, branch_kinds-is, check-Case, check-Null, check-Int}
use Rattle.sql_rows_meaning.specs.Binding.{check_from, check_select}
use Rattle.layout_standing_meaning.specs.Schemas.{primary_schema}
use Rattle.sql_gen_step_laws.specs.Carried.{Name}
use Rattle.sql_gen_binding_laws.specs.StepColumns.{Once, scope_with}
use Rattle.sql_gen_binding_laws.specs.StepBinds.{then_fine, name_fine, equal_fine, IsTest}
use Rattle.sql_gen_star_meaning.specs.declared.arm.Asked.{Asked}
use Rattle.sql_gen_star_meaning.specs.declared.arm.Asked.TheVariants.{Constant, Again, New, Maybe}
use Rattle.sql_gen_star_meaning.specs.Asked.{asked_vars}
use Rattle.sql_gen_star_meaning.specs.SideTables.{entry_name, spill_name, pred_name, val_name}
use Rattle.sql_gen_star_meaning.specs.Partials.{AccessArm}
use Rattle.sql_gen_star_meaning.specs.StarSelects.{star_alias, branch_sql, found_sql, entry_sql, spill_tests, entity_tests, entity_sql, arm_sql, access_core}
use Rattle.sql_gen_star_binding_laws.specs.StarColumns.{partial_schema}
use Rattle.sql_gen_star_binding_laws.proofs.InSight.{pred-kind, val-kind}
use Rattle.sql_gen_star_binding_laws.proofs.Parts.{partials_bind, where_fine, entity_once}

-- the primary table alone in sight
abbrev pub primary_scope : ℕ → Scope
primary_scope k = scope_with star_alias (primary_schema k) (λ a c. None)

pub entry_fine : (k : ℕ) → check entry_sql (primary_scope k) ≡ Ok kind.Int
entry_fine k = name_fine star_alias entry_name (primary_scope k) kind.Int refl

pub entity_fine : (k : ℕ) (entity : Asked) → AllByRecursion (IsTest (primary_scope k)) (entity_tests entity)
entity_fine k (Constant n) = (equal_fine (primary_scope k) entry_sql (sql.Int (pos n)) (entry_fine k) (check-Int (pos n) (primary_scope k)), tt)
entity_fine k (Again v) = tt
entity_fine k (New v) = tt
entity_fine k (Maybe v) = tt

spills_fine : (k : ℕ) (first : Bool) → AllByRecursion (IsTest (primary_scope k)) (spill_tests first)
spills_fine k true =
    (equal_fine (primary_scope k) (sql.Name star_alias spill_name) (sql.Int (pos 0)) (name_fine star_alias spill_name (primary_scope k) kind.Int refl) (check-Int (pos 0) (primary_scope k)), tt)
spills_fine k false = tt

pub pred_fine : (k c : ℕ) → c < k → check (sql.Name star_alias (pred_name c)) (primary_scope k) ≡ Ok kind.Int
pred_fine k c l = name_fine star_alias (pred_name c) (primary_scope k) kind.Int (pred-kind k c l)

pub val_fine : (k c : ℕ) → c < k → check (sql.Name star_alias (val_name c)) (primary_scope k) ≡ Ok kind.Int
val_fine k c l = name_fine star_alias (val_name c) (primary_scope k) kind.Int (val-kind k c l)

-- ---- CASE over the columns of a predicate

abbrev int_branch : BranchKinds
int_branch = record { test = kind.Truth; value = kind.Int }

branch_fine : (k p c : ℕ) → c < k → branch_kinds (branch_sql p c) (primary_scope k) ≡ Ok int_branch
branch_fine k p c l =
    let s = primary_scope k in
    let test : check (sql.Equal (sql.Name star_alias (pred_name c)) (sql.Int (pos p))) s ≡ Ok kind.Truth = equal_fine s (sql.Name star_alias (pred_name c)) (sql.Int (pos p)) (pred_fine k c l) (check-Int (pos p) s) in
    branch_kinds-is (branch_sql p c) s
    ∙ ap₂ (λ (a b : KindChecked). and_then a (λ k. and_then b (λ l. Ok (record { test = k; value = l })))) test (val_fine k c l)

abbrev int_branches : List ℕ → List BranchKinds
int_branches cs = map (λ (c : ℕ). int_branch) cs

branches_fine : (k p : ℕ) (cs : List ℕ) → AllByRecursion (λ c. c < k) cs → all_fine (map (λ b. branch_kinds b (primary_scope k)) (map (branch_sql p) cs)) ≡ Ok (int_branches cs)
branches_fine k p [] all = refl
branches_fine k p (c ∷ cs) all =
    ap₂ (λ (a : Checked FaultKind BranchKinds) (b : Checked FaultKind (List BranchKinds)). and_then a (λ x. and_then b (λ xs. Ok (x ∷ xs)))) (branch_fine k p c all.0) (branches_fine k p cs all.1)

tests_true : (cs : List ℕ) → list_all (same_kind kind.Truth) (map (λ (b : BranchKinds). b.test) (int_branches cs)) ≡ true
tests_true [] = refl
tests_true (c ∷ cs) = tests_true cs

values_int : (cs : List ℕ) → list_all (same_kind kind.Int) (map (λ (b : BranchKinds). b.value) (int_branches cs) ++ kind.Int ∷ []) ≡ true
values_int [] = refl
values_int (c ∷ cs) = values_int cs

case_int : (cs : List ℕ) → case_kind (int_branches cs) kind.Int ≡ Ok kind.Int
case_int [] = refl
case_int (c ∷ cs) = rw (tests_true cs) (rw (values_int cs) refl)

found_fine : (k p : ℕ) (cs : List ℕ) → AllByRecursion (λ c. c < k) cs → check (found_sql p cs) (primary_scope k) ≡ Ok kind.Int
found_fine k p cs all =
    let s = primary_scope k in
    check-Case (map (branch_sql p) cs) (sql.Null kind.Int) s
    ∙ then_fine (all_fine (map (λ b. branch_kinds b s) (map (branch_sql p) cs))) (int_branches cs) (λ kinds. and_then (check (sql.Null kind.Int) s) (case_kind kinds)) (branches_fine k p cs all)
    ∙ then_fine (check (sql.Null kind.Int) s) kind.Int (case_kind (int_branches cs)) (check-Null kind.Int s)
    ∙ case_int cs

-- ---- access

pub access_fine : (schemas : Schemas) (primary : Name) (k : ℕ) → schemas primary ≡ Some (primary_schema k) → (first : Bool) (entity : Asked) (arms : ℕ → AccessArm) → ((i : ℕ) → AllByRecursion (λ c. c < k) (arms i).columns) →
    (cells : List ℕ) → Once cells → check_select schemas None (access_core primary first entity arms cells) ≡ Ok (partial_schema (asked_vars entity []) cells)
access_fine schemas primary k hp first entity arms columns cells o =
    let s : Scope = primary_scope k in
    let us = asked_vars entity [] in
    let start : Seen = record { aliases = star_alias ∷ []; scope = s } in
    let from : check_from schemas (Some (record { table = primary; alias = star_alias })) ≡ Ok start = rw hp refl in
    let items = partials_bind s entity_sql (arm_sql arms) us cells (λ u h. entry_fine k) (λ i h. found_fine k (arms i).pred (arms i).columns (columns i)) (entity_once entity) o in
    let test = where_fine s (spill_tests first ++ entity_tests entity) (each-append (IsTest s) (spill_tests first) (entity_tests entity) (spills_fine k first) (entity_fine k entity)) in
    rw from (rw items (rw test refl))
