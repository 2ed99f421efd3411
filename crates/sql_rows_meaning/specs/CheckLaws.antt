-- The kind of each kind of expression, or its first fault.
use Rattle.std.specs.Prelude.{◌≡◌, ℕ, ℤ, Bool, List, [], ◌∷◌, map, refl, Ok}
use Rattle.std.proofs.Common.{ap, ◌∙◌}
use Rattle.table_meaning.specs.declared.kind.Kind.{Kind}
use Rattle.table_meaning.specs.declared.kind.Kind.TheVariants as kind
use Rattle.sql_meaning.specs.declared.expression.SqlExpr.{SqlExpr}
use Rattle.sql_meaning.specs.declared.expression.SqlExpr.TheVariants as sql
use Rattle.sql_meaning.specs.declared.expression.Branch.{Branch, fold-Branch}
use Rattle.sql_meaning.specs.Levels.{fold_name, fold_int, fold_text, fold_truth, fold_null, fold_equal, fold_less, fold_all, fold_any, fold_not, fold_is_null, fold_case, fold_first, fold_branch}
use Rattle.sql_rows_meaning.specs.declared.fault.FaultKind.{FaultKind}
use Rattle.sql_rows_meaning.specs.declared.fault.FaultKind.TheVariants.{NoColumn}
use Rattle.sql_rows_meaning.specs.Faults.{Checked, and_then, found, all_fine}
use Rattle.sql_rows_meaning.specs.Scopes.{Scope}
use Rattle.sql_rows_meaning.specs.Checks.{KindChecked, BranchKinds, check, check_step, check_branch, compared, all_truths, one_kind, case_kind}

abbrev at : Scope → (Scope → KindChecked) → KindChecked
at scope f = f scope

-- the kinds of a branch's test and value, or the first fault
abbrev pub branch_kinds : Branch → Scope → Checked FaultKind BranchKinds
branch_kinds = fold-Branch (Scope → KindChecked) (Scope → Checked FaultKind BranchKinds) check_step check_branch

pub branch_kinds-is : (b : Branch) (s : Scope) → branch_kinds b s ≡ and_then (check b.test s) (λ k. and_then (check b.value s) (λ l. Ok (record { test = k; value = l })))
branch_kinds-is b s = ap (λ (f : Scope → Checked FaultKind BranchKinds). f s) (fold_branch check_step check_branch b)

through : {X Y : Type 0} (f : X → Scope → Y) (s : Scope) (xs : List X) → map (λ (g : Scope → Y). g s) (map f xs) ≡ map (λ x. f x s) xs
through f s [] = refl
through {X} {Y} f s (x ∷ xs) = ap (λ (ys : List Y). f x s ∷ ys) (through f s xs)

pub check-Name : (a c : List ℕ) (s : Scope) → check (sql.Name a c) s ≡ found NoColumn (s a c)
check-Name a c s = ap (at s) (fold_name check_step check_branch a c)

pub check-Int : (n : ℤ) (s : Scope) → check (sql.Int n) s ≡ Ok kind.Int
check-Int n s = ap (at s) (fold_int check_step check_branch n)

pub check-Text : (t : List ℕ) (s : Scope) → check (sql.Text t) s ≡ Ok kind.Text
check-Text t s = ap (at s) (fold_text check_step check_branch t)

pub check-Truth : (b : Bool) (s : Scope) → check (sql.Truth b) s ≡ Ok kind.Truth
check-Truth b s = ap (at s) (fold_truth check_step check_branch b)

pub check-Null : (k : Kind) (s : Scope) → check (sql.Null k) s ≡ Ok k
check-Null k s = ap (at s) (fold_null check_step check_branch k)

pub check-Equal : (a b : SqlExpr) (s : Scope) → check (sql.Equal a b) s ≡ compared (check a s) (check b s)
check-Equal a b s = ap (at s) (fold_equal check_step check_branch a b)

pub check-Less : (a b : SqlExpr) (s : Scope) → check (sql.Less a b) s ≡ compared (check a s) (check b s)
check-Less a b s = ap (at s) (fold_less check_step check_branch a b)

pub check-All : (es : List SqlExpr) (s : Scope) → check (sql.All es) s ≡ and_then (all_fine (map (λ e. check e s) es)) all_truths
check-All es s = ap (at s) (fold_all check_step check_branch es) ∙ ap (λ (cs : List KindChecked). and_then (all_fine cs) all_truths) (through check s es)

pub check-Any : (es : List SqlExpr) (s : Scope) → check (sql.Any es) s ≡ and_then (all_fine (map (λ e. check e s) es)) all_truths
check-Any es s = ap (at s) (fold_any check_step check_branch es) ∙ ap (λ (cs : List KindChecked). and_then (all_fine cs) all_truths) (through check s es)

pub check-Not : (a : SqlExpr) (s : Scope) → check (sql.Not a) s ≡ and_then (check a s) (λ k. all_truths (k ∷ []))
check-Not a s = ap (at s) (fold_not check_step check_branch a)

pub check-IsNull : (a : SqlExpr) (s : Scope) → check (sql.IsNull a) s ≡ and_then (check a s) (λ k. Ok kind.Truth)
check-IsNull a s = ap (at s) (fold_is_null check_step check_branch a)

pub check-Case : (bs : List Branch) (a : SqlExpr) (s : Scope) → check (sql.Case bs a) s ≡ and_then (all_fine (map (λ b. branch_kinds b s) bs)) (λ kinds. and_then (check a s) (case_kind kinds))
check-Case bs a s = ap (at s) (fold_case check_step check_branch bs a) ∙ ap (λ (cs : List (Checked FaultKind BranchKinds)). and_then (all_fine cs) (λ kinds. and_then (check a s) (case_kind kinds))) (through branch_kinds s bs)

pub check-First : (es : List SqlExpr) (s : Scope) → check (sql.First es) s ≡ and_then (all_fine (map (λ e. check e s) es)) one_kind
check-First es s = ap (at s) (fold_first check_step check_branch es) ∙ ap (λ (cs : List KindChecked). and_then (all_fine cs) one_kind) (through check s es)
