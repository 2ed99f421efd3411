-- Induction over expressions.
use Rattle.std.specs.Prelude.{List, [], ◌∷◌, ℕ, ℤ, Bool, map}
use Rattle.std.proofs.Common.{subst, sym}
use Rattle.table_meaning.specs.declared.kind.Kind.{Kind}
use Rattle.sql_meaning.specs.declared.expression.SqlExpr.{SqlExpr, map-SqlExpr}
use Rattle.sql_meaning.specs.declared.expression.SqlExpr.TheVariants as v
use Rattle.sql_meaning.specs.declared.expression.SqlExpr.TheOpen as o
use Rattle.sql_meaning.specs.declared.expression.SqlExpr.TheOpen.{SqlExpr-F}
use Rattle.sql_meaning.specs.declared.expression.SqlExpr.TheFolds.{ind-SqlExpr}
use Rattle.sql_meaning.specs.declared.expression.SqlExpr.TheViews as views
use Rattle.sql_meaning.specs.declared.expression.Branch.{Branch, Branch-F}

-- it holds of each item
abbrev pub Each : {A : Type 0} → (A → Type 0) → List A → Type 0
Each P [] = Unit {0}
Each P (x ∷ xs) = P x × Each P xs

-- it holds of both expressions of a branch
abbrev pub OfBranch : (SqlExpr → Type 0) → Branch → Type 0
OfBranch P b = P b.test × P b.value

-- what holds of an expression whenever it holds of its parts
pub record IsPassedUp (P : SqlExpr → Type 0) : Type 0 where
  pub name : (a c : List ℕ) → P (v.Name a c)
  pub int : (n : ℤ) → P (v.Int n)
  pub text : (s : List ℕ) → P (v.Text s)
  pub truth : (b : Bool) → P (v.Truth b)
  pub null : (k : Kind) → P (v.Null k)
  pub equal : (a b : SqlExpr) → P a → P b → P (v.Equal a b)
  pub less : (a b : SqlExpr) → P a → P b → P (v.Less a b)
  pub all : (es : List SqlExpr) → Each P es → P (v.All es)
  pub any : (es : List SqlExpr) → Each P es → P (v.Any es)
  pub not : (a : SqlExpr) → P a → P (v.Not a)
  pub is_null : (a : SqlExpr) → P a → P (v.IsNull a)
  pub case : (bs : List Branch) (last : SqlExpr) → Each (OfBranch P) bs → P last → P (v.Case bs last)
  pub first : (es : List SqlExpr) → Each P es → P (v.First es)

firsts : {A : Type 0} (P : A → Type 0) (xs : List ((x : A) × P x)) → Each P (map (λ e. e.0) xs)
firsts P [] = tt
firsts P (x ∷ xs) = (x.1, firsts P xs)

-- what is passed up holds of every expression
pub every_expr : (P : SqlExpr → Type 0) → IsPassedUp P → (e : SqlExpr) → P e
every_expr P up = ind-SqlExpr P (OfBranch P) (λ x y is. subst (λ (z : SqlExpr-F SqlExpr Branch). P (views.roll-SqlExpr z)) is (node y)) (λ x y is. subst (λ (z : Branch-F SqlExpr Branch). OfBranch P (views.roll-Branch z)) is (y.test.1, y.value.1))
  where
    node : (y : SqlExpr-F ((e : SqlExpr) × P e) ((b : Branch) × OfBranch P b)) → P (views.roll-SqlExpr (map-SqlExpr ((e : SqlExpr) × P e) ((b : Branch) × OfBranch P b) SqlExpr Branch (λ e. e.0) (λ b. b.0) y))
    node (o.Name a c) = subst P (sym (v.rolls-Name a c)) (up.name a c)
    node (o.Int n) = subst P (sym (v.rolls-Int n)) (up.int n)
    node (o.Text s) = subst P (sym (v.rolls-Text s)) (up.text s)
    node (o.Truth b) = subst P (sym (v.rolls-Truth b)) (up.truth b)
    node (o.Null k) = subst P (sym (v.rolls-Null k)) (up.null k)
    node (o.Equal a b) = subst P (sym (v.rolls-Equal a.0 b.0)) (up.equal a.0 b.0 a.1 b.1)
    node (o.Less a b) = subst P (sym (v.rolls-Less a.0 b.0)) (up.less a.0 b.0 a.1 b.1)
    node (o.All es) = subst P (sym (v.rolls-All (map (λ e. e.0) es))) (up.all (map (λ e. e.0) es) (firsts P es))
    node (o.Any es) = subst P (sym (v.rolls-Any (map (λ e. e.0) es))) (up.any (map (λ e. e.0) es) (firsts P es))
    node (o.Not a) = subst P (sym (v.rolls-Not a.0)) (up.not a.0 a.1)
    node (o.IsNull a) = subst P (sym (v.rolls-IsNull a.0)) (up.is_null a.0 a.1)
    node (o.Case bs last) = subst P (sym (v.rolls-Case (map (λ b. b.0) bs) last.0)) (up.case (map (λ b. b.0) bs) last.0 (firsts (OfBranch P) bs) last.1)
    node (o.First es) = subst P (sym (v.rolls-First (map (λ e. e.0) es))) (up.first (map (λ e. e.0) es) (firsts P es))
