-- The first level of an expression, path by path: its kind or its first fault, and its places.
use Rattle.std.specs.Prelude.{◌≡◌, List, [], ◌∷◌, map, Ok, Err}
use Rattle.std.proofs.Common.{ap, ◌∙◌}
use Rattle.table_meaning.specs.declared.kind.Kind.{Kind}
use Rattle.table_meaning.specs.declared.kind.Kind.TheVariants as kind
use Rattle.sql_meaning.specs.declared.expression.SqlExpr.{SqlExpr}
use Rattle.sql_meaning.specs.declared.expression.SqlExpr.TheVariants as sql
use Rattle.sql_meaning.specs.declared.expression.Branch.{Branch}
use Rattle.sql_rows_meaning.specs.declared.fault.FaultKind.{FaultKind}
use Rattle.sql_rows_meaning.specs.Faults.{Checked, and_then, all_fine}
use Rattle.sql_rows_meaning.specs.Scopes.{Scope}
use Rattle.sql_rows_meaning.specs.Checks.{KindChecked, BranchKinds, check, compared, all_truths, one_kind, case_kind}
use Rattle.sql_rows_meaning.specs.CheckLaws.{branch_kinds, branch_kinds-is, check-Name, check-Int, check-Text, check-Truth, check-Null, check-Equal, check-Less, check-All, check-Any, check-Not, check-IsNull, check-Case, check-First}
use Rattle.sql_bind_laws.specs.PlaceLaws.{place_branch-is, place-Name, place-Int, place-Text, place-Truth, place-Null, place-Equal, place-Less, place-All, place-Any, place-Not, place-IsNull, place-Case, place-First}

abbrev KindsChecked : Type 0
KindsChecked = Checked FaultKind (List Kind)

-- ---- two parts

pub equal_first : (a b : SqlExpr) (s : Scope) (f : FaultKind) → check a s ≡ Err f → check (sql.Equal a b) s ≡ Err f
equal_first a b s f h = check-Equal a b s ∙ ap (λ (c : KindChecked). compared c (check b s)) h

pub equal_second : (a b : SqlExpr) (s : Scope) (k : Kind) (f : FaultKind) → check a s ≡ Ok k → check b s ≡ Err f → check (sql.Equal a b) s ≡ Err f
equal_second a b s k f h g = check-Equal a b s ∙ ap (λ (c : KindChecked). compared c (check b s)) h ∙ ap (λ (c : KindChecked). compared (Ok k) c) g

pub equal_both : (a b : SqlExpr) (s : Scope) (k l : Kind) → check a s ≡ Ok k → check b s ≡ Ok l → check (sql.Equal a b) s ≡ compared (Ok k) (Ok l)
equal_both a b s k l h g = check-Equal a b s ∙ ap (λ (c : KindChecked). compared c (check b s)) h ∙ ap (λ (c : KindChecked). compared (Ok k) c) g

pub less_first : (a b : SqlExpr) (s : Scope) (f : FaultKind) → check a s ≡ Err f → check (sql.Less a b) s ≡ Err f
less_first a b s f h = check-Less a b s ∙ ap (λ (c : KindChecked). compared c (check b s)) h

pub less_second : (a b : SqlExpr) (s : Scope) (k : Kind) (f : FaultKind) → check a s ≡ Ok k → check b s ≡ Err f → check (sql.Less a b) s ≡ Err f
less_second a b s k f h g = check-Less a b s ∙ ap (λ (c : KindChecked). compared c (check b s)) h ∙ ap (λ (c : KindChecked). compared (Ok k) c) g

pub less_both : (a b : SqlExpr) (s : Scope) (k l : Kind) → check a s ≡ Ok k → check b s ≡ Ok l → check (sql.Less a b) s ≡ compared (Ok k) (Ok l)
less_both a b s k l h g = check-Less a b s ∙ ap (λ (c : KindChecked). compared c (check b s)) h ∙ ap (λ (c : KindChecked). compared (Ok k) c) g

-- ---- a list of parts

pub all_stops : (es : List SqlExpr) (s : Scope) (f : FaultKind) → all_fine (map (λ e. check e s) es) ≡ Err f → check (sql.All es) s ≡ Err f
all_stops es s f h = check-All es s ∙ ap (λ (c : KindsChecked). and_then c all_truths) h

pub all_checked : (es : List SqlExpr) (s : Scope) (ks : List Kind) → all_fine (map (λ e. check e s) es) ≡ Ok ks → check (sql.All es) s ≡ all_truths ks
all_checked es s ks h = check-All es s ∙ ap (λ (c : KindsChecked). and_then c all_truths) h

pub any_stops : (es : List SqlExpr) (s : Scope) (f : FaultKind) → all_fine (map (λ e. check e s) es) ≡ Err f → check (sql.Any es) s ≡ Err f
any_stops es s f h = check-Any es s ∙ ap (λ (c : KindsChecked). and_then c all_truths) h

pub any_checked : (es : List SqlExpr) (s : Scope) (ks : List Kind) → all_fine (map (λ e. check e s) es) ≡ Ok ks → check (sql.Any es) s ≡ all_truths ks
any_checked es s ks h = check-Any es s ∙ ap (λ (c : KindsChecked). and_then c all_truths) h

pub first_stops : (es : List SqlExpr) (s : Scope) (f : FaultKind) → all_fine (map (λ e. check e s) es) ≡ Err f → check (sql.First es) s ≡ Err f
first_stops es s f h = check-First es s ∙ ap (λ (c : KindsChecked). and_then c one_kind) h

pub first_checked : (es : List SqlExpr) (s : Scope) (ks : List Kind) → all_fine (map (λ e. check e s) es) ≡ Ok ks → check (sql.First es) s ≡ one_kind ks
first_checked es s ks h = check-First es s ∙ ap (λ (c : KindsChecked). and_then c one_kind) h

-- ---- one part

abbrev not_checks : KindChecked → KindChecked
not_checks c = and_then c (λ k. all_truths (k ∷ []))

pub not_stops : (a : SqlExpr) (s : Scope) (f : FaultKind) → check a s ≡ Err f → check (sql.Not a) s ≡ Err f
not_stops a s f h = check-Not a s ∙ ap not_checks h

pub not_checked : (a : SqlExpr) (s : Scope) (k : Kind) → check a s ≡ Ok k → check (sql.Not a) s ≡ all_truths (k ∷ [])
not_checked a s k h = check-Not a s ∙ ap not_checks h

abbrev null_checks : KindChecked → KindChecked
null_checks c = and_then c (λ k. Ok kind.Truth)

pub is_null_stops : (a : SqlExpr) (s : Scope) (f : FaultKind) → check a s ≡ Err f → check (sql.IsNull a) s ≡ Err f
is_null_stops a s f h = check-IsNull a s ∙ ap null_checks h

pub is_null_checked : (a : SqlExpr) (s : Scope) (k : Kind) → check a s ≡ Ok k → check (sql.IsNull a) s ≡ Ok kind.Truth
is_null_checked a s k h = check-IsNull a s ∙ ap null_checks h

-- ---- CASE

abbrev case_checks : SqlExpr → Scope → Checked FaultKind (List BranchKinds) → KindChecked
case_checks a s c = and_then c (λ kinds. and_then (check a s) (case_kind kinds))

abbrev last_checks : List BranchKinds → KindChecked → KindChecked
last_checks ks c = and_then c (case_kind ks)

pub case_stops : (bs : List Branch) (a : SqlExpr) (s : Scope) (f : FaultKind) → all_fine (map (λ b. branch_kinds b s) bs) ≡ Err f → check (sql.Case bs a) s ≡ Err f
case_stops bs a s f h = check-Case bs a s ∙ ap (case_checks a s) h

pub case_no_last : (bs : List Branch) (a : SqlExpr) (s : Scope) (ks : List BranchKinds) (f : FaultKind) → all_fine (map (λ b. branch_kinds b s) bs) ≡ Ok ks → check a s ≡ Err f → check (sql.Case bs a) s ≡ Err f
case_no_last bs a s ks f h g = check-Case bs a s ∙ ap (case_checks a s) h ∙ ap (last_checks ks) g

pub case_checked : (bs : List Branch) (a : SqlExpr) (s : Scope) (ks : List BranchKinds) (k : Kind) → all_fine (map (λ b. branch_kinds b s) bs) ≡ Ok ks → check a s ≡ Ok k → check (sql.Case bs a) s ≡ case_kind ks k
case_checked bs a s ks k h g = check-Case bs a s ∙ ap (case_checks a s) h ∙ ap (last_checks ks) g

pub ruleset leaves = (check-Name, check-Int, check-Text, check-Truth, check-Null)

pub ruleset checking = (equal_first, equal_second, equal_both, less_first, less_second, less_both, all_stops, all_checked, any_stops, any_checked, first_stops, first_checked, not_stops, not_checked, is_null_stops, is_null_checked, case_stops, case_no_last, case_checked)

pub ruleset placing = (place-Name, place-Int, place-Text, place-Truth, place-Null, place-Equal, place-Less, place-All, place-Any, place-Not, place-IsNull, place-Case, place-First)

-- ---- a branch

abbrev value_checks : Kind → KindChecked → Checked FaultKind BranchKinds
value_checks k c = and_then c (λ l. Ok (record { test = k; value = l }))

abbrev branch_checks : Branch → Scope → KindChecked → Checked FaultKind BranchKinds
branch_checks b s c = and_then c (λ k. value_checks k (check b.value s))

pub branch_no_test : (b : Branch) (s : Scope) (f : FaultKind) → check b.test s ≡ Err f → branch_kinds b s ≡ Err f
branch_no_test b s f h = branch_kinds-is b s ∙ ap (branch_checks b s) h

pub branch_no_value : (b : Branch) (s : Scope) (k : Kind) (f : FaultKind) → check b.test s ≡ Ok k → check b.value s ≡ Err f → branch_kinds b s ≡ Err f
branch_no_value b s k f h g = branch_kinds-is b s ∙ ap (branch_checks b s) h ∙ ap (value_checks k) g

pub branch_checked : (b : Branch) (s : Scope) (k l : Kind) → check b.test s ≡ Ok k → check b.value s ≡ Ok l → branch_kinds b s ≡ Ok (record { test = k; value = l })
branch_checked b s k l h g = branch_kinds-is b s ∙ ap (branch_checks b s) h ∙ ap (value_checks k) g

pub ruleset branching = (branch_no_test, branch_no_value, branch_checked, place_branch-is)
