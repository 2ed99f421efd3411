-- An expression with a list of parts, when what its parts gave is known.
use Rattle.std.proofs.Common.{◌≡◌, List, map, Ok, Err, sym, ap, ◌∙◌}
use Rattle.table_meaning.specs.declared.kind.Kind.{Kind}
use Rattle.sql_meaning.specs.declared.expression.SqlExpr.{SqlExpr}
use Rattle.sql_meaning.specs.declared.expression.SqlExpr.TheVariants as sql
use Rattle.sql_meaning.specs.declared.expression.Branch.{Branch}
use Rattle.sql_rows_meaning.specs.declared.fault.FaultKind.{FaultKind}
use Rattle.sql_rows_meaning.specs.Faults.{all_fine}
use Rattle.sql_rows_meaning.specs.Scopes.{Scope}
use Rattle.sql_rows_meaning.specs.Checks.{BranchKinds, check, all_truths, one_kind, case_kind}
use Rattle.sql_rows_meaning.specs.CheckLaws.{branch_kinds}
use Rattle.sql_bind_meaning.specs.declared.expression.BoundExpr.{BoundExpr}
use Rattle.sql_bind_meaning.specs.declared.expression.BoundExpr.TheVariants as v
use Rattle.sql_bind_laws.specs.Places.{Places, place}
use Rattle.sql_bind_laws.specs.PlaceLaws.{place-All, place-Any, place-First}
use Rattle.sql_bind_expressions.specs.Levels.{all_stops, all_checked, any_stops, any_checked, first_stops, first_checked, case_stops, case_no_last, case_checked}

all-same : (e : SqlExpr) (es qs : List SqlExpr) → e ≡ sql.All es → qs ≡ es → e ≡ sql.All qs
all-same e es qs is same = is ∙ ap sql.All (sym same)

pub all_stopped : (e : SqlExpr) (es qs : List SqlExpr) (s : Scope) (f : FaultKind) → e ≡ sql.All es → qs ≡ es → all_fine (map (λ x. check x s) qs) ≡ Err f → check e s ≡ Err f
all_stopped e es qs s f is same h = ap (λ (x : SqlExpr). check x s) (all-same e es qs is same) ∙ all_stops qs s f h

pub all_told : (e : SqlExpr) (es qs : List SqlExpr) (s : Scope) (ks : List Kind) → e ≡ sql.All es → qs ≡ es → all_fine (map (λ x. check x s) qs) ≡ Ok ks → check e s ≡ all_truths ks
all_told e es qs s ks is same h = ap (λ (x : SqlExpr). check x s) (all-same e es qs is same) ∙ all_checked qs s ks h

pub all_placed : (e : SqlExpr) (es qs : List SqlExpr) (p : Places) (xs : List BoundExpr) → e ≡ sql.All es → qs ≡ es → xs ≡ map (λ x. place x p) qs → v.All xs ≡ place e p
all_placed e es qs p xs is same h = ap v.All h ∙ sym (ap (λ (x : SqlExpr). place x p) (all-same e es qs is same) ∙ place-All qs p)

any-same : (e : SqlExpr) (es qs : List SqlExpr) → e ≡ sql.Any es → qs ≡ es → e ≡ sql.Any qs
any-same e es qs is same = is ∙ ap sql.Any (sym same)

pub any_stopped : (e : SqlExpr) (es qs : List SqlExpr) (s : Scope) (f : FaultKind) → e ≡ sql.Any es → qs ≡ es → all_fine (map (λ x. check x s) qs) ≡ Err f → check e s ≡ Err f
any_stopped e es qs s f is same h = ap (λ (x : SqlExpr). check x s) (any-same e es qs is same) ∙ any_stops qs s f h

pub any_told : (e : SqlExpr) (es qs : List SqlExpr) (s : Scope) (ks : List Kind) → e ≡ sql.Any es → qs ≡ es → all_fine (map (λ x. check x s) qs) ≡ Ok ks → check e s ≡ all_truths ks
any_told e es qs s ks is same h = ap (λ (x : SqlExpr). check x s) (any-same e es qs is same) ∙ any_checked qs s ks h

pub any_placed : (e : SqlExpr) (es qs : List SqlExpr) (p : Places) (xs : List BoundExpr) → e ≡ sql.Any es → qs ≡ es → xs ≡ map (λ x. place x p) qs → v.Any xs ≡ place e p
any_placed e es qs p xs is same h = ap v.Any h ∙ sym (ap (λ (x : SqlExpr). place x p) (any-same e es qs is same) ∙ place-Any qs p)

first-same : (e : SqlExpr) (es qs : List SqlExpr) → e ≡ sql.First es → qs ≡ es → e ≡ sql.First qs
first-same e es qs is same = is ∙ ap sql.First (sym same)

pub first_stopped : (e : SqlExpr) (es qs : List SqlExpr) (s : Scope) (f : FaultKind) → e ≡ sql.First es → qs ≡ es → all_fine (map (λ x. check x s) qs) ≡ Err f → check e s ≡ Err f
first_stopped e es qs s f is same h = ap (λ (x : SqlExpr). check x s) (first-same e es qs is same) ∙ first_stops qs s f h

pub first_told : (e : SqlExpr) (es qs : List SqlExpr) (s : Scope) (ks : List Kind) → e ≡ sql.First es → qs ≡ es → all_fine (map (λ x. check x s) qs) ≡ Ok ks → check e s ≡ one_kind ks
first_told e es qs s ks is same h = ap (λ (x : SqlExpr). check x s) (first-same e es qs is same) ∙ first_checked qs s ks h

pub first_placed : (e : SqlExpr) (es qs : List SqlExpr) (p : Places) (xs : List BoundExpr) → e ≡ sql.First es → qs ≡ es → xs ≡ map (λ x. place x p) qs → v.First xs ≡ place e p
first_placed e es qs p xs is same h = ap v.First h ∙ sym (ap (λ (x : SqlExpr). place x p) (first-same e es qs is same) ∙ place-First qs p)

case-same : (e : SqlExpr) (bs cs : List Branch) (a b : SqlExpr) → e ≡ sql.Case bs a → cs ≡ bs → b ≡ a → e ≡ sql.Case cs b
case-same e bs cs a b is same last = is ∙ ap (λ (x : List Branch). sql.Case x a) (sym same) ∙ ap (sql.Case cs) (sym last)

pub case_stopped : (e : SqlExpr) (bs cs : List Branch) (a : SqlExpr) (s : Scope) (f : FaultKind) → e ≡ sql.Case bs a → cs ≡ bs → all_fine (map (λ b. branch_kinds b s) cs) ≡ Err f → check e s ≡ Err f
case_stopped e bs cs a s f is same h = ap (λ (x : SqlExpr). check x s) (is ∙ ap (λ (x : List Branch). sql.Case x a) (sym same)) ∙ case_stops cs a s f h

pub case_last_stopped : (e : SqlExpr) (bs cs : List Branch) (a b : SqlExpr) (s : Scope) (ks : List BranchKinds) (f : FaultKind) → e ≡ sql.Case bs a → cs ≡ bs → b ≡ a → all_fine (map (λ b. branch_kinds b s) cs) ≡ Ok ks → check b s ≡ Err f → check e s ≡ Err f
case_last_stopped e bs cs a b s ks f is same last h g = ap (λ (x : SqlExpr). check x s) (case-same e bs cs a b is same last) ∙ case_no_last cs b s ks f h g

pub case_told : (e : SqlExpr) (bs cs : List Branch) (a b : SqlExpr) (s : Scope) (ks : List BranchKinds) (k : Kind) → e ≡ sql.Case bs a → cs ≡ bs → b ≡ a → all_fine (map (λ b. branch_kinds b s) cs) ≡ Ok ks → check b s ≡ Ok k → check e s ≡ case_kind ks k
case_told e bs cs a b s ks k is same last h g = ap (λ (x : SqlExpr). check x s) (case-same e bs cs a b is same last) ∙ case_checked cs b s ks k h g
