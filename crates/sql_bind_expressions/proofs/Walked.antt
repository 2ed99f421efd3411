-- Parts and branches, one by one.
use Rattle.std.proofs.Common.{◌≡◌, ℕ, ◌+◌, ◌<◌, List, [], ◌∷◌, ◌++◌, map, length, take, get_or, Ok, Err, sym, ap, ◌∙◌}
use Rattle.table_meaning.specs.declared.kind.Kind.{Kind}
use Rattle.sql_meaning.specs.declared.expression.SqlExpr.{SqlExpr}
use Rattle.sql_meaning.specs.declared.expression.Branch.{Branch}
use Rattle.sql_rows_meaning.specs.declared.fault.FaultKind.{FaultKind}
use Rattle.sql_rows_meaning.specs.Faults.{all_fine}
use Rattle.sql_rows_meaning.specs.Scopes.{Scope}
use Rattle.sql_rows_meaning.specs.Checks.{BranchKinds, check}
use Rattle.sql_rows_meaning.specs.CheckLaws.{branch_kinds}
use Rattle.sql_bind_meaning.specs.declared.expression.BoundExpr.{BoundExpr}
use Rattle.sql_bind_meaning.specs.declared.expression.BoundBranch.{BoundBranch}
use Rattle.sql_bind_laws.specs.Places.{Places, place, place_branch}
use Rattle.sql_bind_laws.specs.PlaceLaws.{place_branch-is}
use Rattle.sql_bind_expressions.proofs.Fine.{fine_more, fine_stops, map_more}

pub parts_more : (s : Scope) (all : List SqlExpr) (i : ℕ) (x : SqlExpr) (ks : List Kind) (k : Kind) → i < length all → x ≡ get_or all i x → all_fine (map (λ e. check e s) (take i all)) ≡ Ok ks → check x s ≡ Ok k →
    all_fine (map (λ e. check e s) (take (i + 1) all)) ≡ Ok (ks ++ k ∷ [])
parts_more s all i x ks k within is was now = fine_more (λ (e : SqlExpr). check e s) all i x ks k within is was now

pub parts_stop : (s : Scope) (all : List SqlExpr) (i : ℕ) (x : SqlExpr) (ks : List Kind) (f : FaultKind) → i < length all → x ≡ get_or all i x → all_fine (map (λ e. check e s) (take i all)) ≡ Ok ks → check x s ≡ Err f →
    all_fine (map (λ e. check e s) all) ≡ Err f
parts_stop s all i x ks f within is was now = fine_stops (λ (e : SqlExpr). check e s) all i x ks f within is was now

pub parts_placed : (p : Places) (all : List SqlExpr) (i : ℕ) (x : SqlExpr) → i < length all → x ≡ get_or all i x → map (λ e. place e p) (take (i + 1) all) ≡ map (λ e. place e p) (take i all) ++ place x p ∷ []
parts_placed p all i x within is = map_more (λ (e : SqlExpr). place e p) all i x within is

pub branches_more : (s : Scope) (all : List Branch) (i : ℕ) (x : Branch) (ks : List BranchKinds) (k : BranchKinds) → i < length all → x ≡ get_or all i x → all_fine (map (λ b. branch_kinds b s) (take i all)) ≡ Ok ks → branch_kinds x s ≡ Ok k →
    all_fine (map (λ b. branch_kinds b s) (take (i + 1) all)) ≡ Ok (ks ++ k ∷ [])
branches_more s all i x ks k within is was now = fine_more (λ (b : Branch). branch_kinds b s) all i x ks k within is was now

pub branches_stop : (s : Scope) (all : List Branch) (i : ℕ) (x : Branch) (ks : List BranchKinds) (f : FaultKind) → i < length all → x ≡ get_or all i x → all_fine (map (λ b. branch_kinds b s) (take i all)) ≡ Ok ks → branch_kinds x s ≡ Err f →
    all_fine (map (λ b. branch_kinds b s) all) ≡ Err f
branches_stop s all i x ks f within is was now = fine_stops (λ (b : Branch). branch_kinds b s) all i x ks f within is was now

pub branches_placed : (p : Places) (all : List Branch) (i : ℕ) (x : Branch) → i < length all → x ≡ get_or all i x → map (λ b. place_branch b p) (take (i + 1) all) ≡ map (λ b. place_branch b p) (take i all) ++ place_branch x p ∷ []
branches_placed p all i x within is = map_more (λ (b : Branch). place_branch b p) all i x within is

-- one more is kept
pub kinds_kept : (s : Scope) (all : List SqlExpr) (i : ℕ) (x : SqlExpr) (ks ls : List Kind) (k : Kind) → i < length all → x ≡ get_or all i x → all_fine (map (λ e. check e s) (take i all)) ≡ Ok ks → check x s ≡ Ok k → ls ≡ ks ++ k ∷ [] →
    all_fine (map (λ e. check e s) (take (i + 1) all)) ≡ Ok ls
kinds_kept s all i x ks ls k within is was now more = parts_more s all i x ks k within is was now ∙ ap Ok (sym more)

pub exprs_kept : (p : Places) (all : List SqlExpr) (i : ℕ) (x : SqlExpr) (xs ys : List BoundExpr) (y : BoundExpr) → i < length all → x ≡ get_or all i x → xs ≡ map (λ e. place e p) (take i all) → y ≡ place x p → ys ≡ xs ++ y ∷ [] →
    ys ≡ map (λ e. place e p) (take (i + 1) all)
exprs_kept p all i x xs ys y within is was now more = more ∙ ap (λ (zs : List BoundExpr). zs ++ y ∷ []) was ∙ ap (λ (z : BoundExpr). map (λ e. place e p) (take i all) ++ z ∷ []) now ∙ sym (parts_placed p all i x within is)

pub branch_kinds_kept : (s : Scope) (all : List Branch) (i : ℕ) (x : Branch) (ks ls : List BranchKinds) (k : BranchKinds) → i < length all → x ≡ get_or all i x → all_fine (map (λ b. branch_kinds b s) (take i all)) ≡ Ok ks → branch_kinds x s ≡ Ok k → ls ≡ ks ++ k ∷ [] →
    all_fine (map (λ b. branch_kinds b s) (take (i + 1) all)) ≡ Ok ls
branch_kinds_kept s all i x ks ls k within is was now more = branches_more s all i x ks k within is was now ∙ ap Ok (sym more)

pub branches_kept : (p : Places) (all : List Branch) (i : ℕ) (x : Branch) (xs ys : List BoundBranch) (y : BoundBranch) → i < length all → x ≡ get_or all i x → xs ≡ map (λ b. place_branch b p) (take i all) → y ≡ place_branch x p → ys ≡ xs ++ y ∷ [] →
    ys ≡ map (λ b. place_branch b p) (take (i + 1) all)
branches_kept p all i x xs ys y within is was now more = more ∙ ap (λ (zs : List BoundBranch). zs ++ y ∷ []) was ∙ ap (λ (z : BoundBranch). map (λ b. place_branch b p) (take i all) ++ z ∷ []) now ∙ sym (branches_placed p all i x within is)

pub branch_placed : (p : Places) (b : Branch) (t w : BoundExpr) → t ≡ place b.test p → w ≡ place b.value p → record { test = t; value = w } ≡ place_branch b p
branch_placed p b t w h g = ap (λ (z : BoundExpr). pair z w) h ∙ ap (pair (place b.test p)) g ∙ sym (place_branch-is b p)
  where
    pair : BoundExpr → BoundExpr → BoundBranch
    pair z y = record { test = z; value = y }

pub ruleset part_steps = (parts_more, parts_stop, parts_placed)

pub ruleset branch_steps = (branches_more, branches_stop, branches_placed)
