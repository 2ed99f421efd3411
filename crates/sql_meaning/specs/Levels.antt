-- A fold over an expression by its first level.
use Rattle.std.proofs.Common.{◌≡◌, sym, ap, ◌∙◌, List, ℕ, ℤ, Bool}
use Rattle.std.specs.Prelude.{map}
use Rattle.table_meaning.specs.declared.kind.Kind.{Kind}
use Rattle.sql_meaning.specs.declared.expression.SqlExpr.{SqlExpr, fold-SqlExpr, fold-roll-SqlExpr}
use Rattle.sql_meaning.specs.declared.expression.SqlExpr.TheVariants as v
use Rattle.sql_meaning.specs.declared.expression.SqlExpr.TheOpen as o
use Rattle.sql_meaning.specs.declared.expression.SqlExpr.TheOpen.{SqlExpr-F}
use Rattle.sql_meaning.specs.declared.expression.Branch.{Branch, Branch-F, fold-Branch, fold_out-Branch}

module _ {A B : Type 0} (step : SqlExpr-F A B → A) (branch : Branch-F A B → B) where
  pub fold_name : (a c : List ℕ) → fold-SqlExpr A B step branch (v.Name a c) ≡ step (o.Name a c)
  fold_name a c = ap (λ e. fold-SqlExpr A B step branch e) (sym (v.rolls-Name a c)) ∙ fold-roll-SqlExpr A B step branch (o.Name a c)

  pub fold_int : (n : ℤ) → fold-SqlExpr A B step branch (v.Int n) ≡ step (o.Int n)
  fold_int n = ap (λ e. fold-SqlExpr A B step branch e) (sym (v.rolls-Int n)) ∙ fold-roll-SqlExpr A B step branch (o.Int n)

  pub fold_text : (s : List ℕ) → fold-SqlExpr A B step branch (v.Text s) ≡ step (o.Text s)
  fold_text s = ap (λ e. fold-SqlExpr A B step branch e) (sym (v.rolls-Text s)) ∙ fold-roll-SqlExpr A B step branch (o.Text s)

  pub fold_truth : (b : Bool) → fold-SqlExpr A B step branch (v.Truth b) ≡ step (o.Truth b)
  fold_truth b = ap (λ e. fold-SqlExpr A B step branch e) (sym (v.rolls-Truth b)) ∙ fold-roll-SqlExpr A B step branch (o.Truth b)

  pub fold_null : (k : Kind) → fold-SqlExpr A B step branch (v.Null k) ≡ step (o.Null k)
  fold_null k = ap (λ e. fold-SqlExpr A B step branch e) (sym (v.rolls-Null k)) ∙ fold-roll-SqlExpr A B step branch (o.Null k)

  pub fold_equal : (a b : SqlExpr) → fold-SqlExpr A B step branch (v.Equal a b) ≡ step (o.Equal (fold-SqlExpr A B step branch a) (fold-SqlExpr A B step branch b))
  fold_equal a b = ap (λ e. fold-SqlExpr A B step branch e) (sym (v.rolls-Equal a b)) ∙ fold-roll-SqlExpr A B step branch (o.Equal a b)

  pub fold_less : (a b : SqlExpr) → fold-SqlExpr A B step branch (v.Less a b) ≡ step (o.Less (fold-SqlExpr A B step branch a) (fold-SqlExpr A B step branch b))
  fold_less a b = ap (λ e. fold-SqlExpr A B step branch e) (sym (v.rolls-Less a b)) ∙ fold-roll-SqlExpr A B step branch (o.Less a b)

  pub fold_all : (es : List SqlExpr) → fold-SqlExpr A B step branch (v.All es) ≡ step (o.All (map (fold-SqlExpr A B step branch) es))
  fold_all es = ap (λ e. fold-SqlExpr A B step branch e) (sym (v.rolls-All es)) ∙ fold-roll-SqlExpr A B step branch (o.All es)

  pub fold_any : (es : List SqlExpr) → fold-SqlExpr A B step branch (v.Any es) ≡ step (o.Any (map (fold-SqlExpr A B step branch) es))
  fold_any es = ap (λ e. fold-SqlExpr A B step branch e) (sym (v.rolls-Any es)) ∙ fold-roll-SqlExpr A B step branch (o.Any es)

  pub fold_not : (a : SqlExpr) → fold-SqlExpr A B step branch (v.Not a) ≡ step (o.Not (fold-SqlExpr A B step branch a))
  fold_not a = ap (λ e. fold-SqlExpr A B step branch e) (sym (v.rolls-Not a)) ∙ fold-roll-SqlExpr A B step branch (o.Not a)

  pub fold_is_null : (a : SqlExpr) → fold-SqlExpr A B step branch (v.IsNull a) ≡ step (o.IsNull (fold-SqlExpr A B step branch a))
  fold_is_null a = ap (λ e. fold-SqlExpr A B step branch e) (sym (v.rolls-IsNull a)) ∙ fold-roll-SqlExpr A B step branch (o.IsNull a)

  pub fold_case : (bs : List Branch) (a : SqlExpr) → fold-SqlExpr A B step branch (v.Case bs a) ≡ step (o.Case (map (fold-Branch A B step branch) bs) (fold-SqlExpr A B step branch a))
  fold_case bs a = ap (λ e. fold-SqlExpr A B step branch e) (sym (v.rolls-Case bs a)) ∙ fold-roll-SqlExpr A B step branch (o.Case bs a)

  pub fold_first : (es : List SqlExpr) → fold-SqlExpr A B step branch (v.First es) ≡ step (o.First (map (fold-SqlExpr A B step branch) es))
  fold_first es = ap (λ e. fold-SqlExpr A B step branch e) (sym (v.rolls-First es)) ∙ fold-roll-SqlExpr A B step branch (o.First es)

  pub fold_branch : (b : Branch) → fold-Branch A B step branch b ≡ branch (record { test = fold-SqlExpr A B step branch b.test; value = fold-SqlExpr A B step branch b.value })
  fold_branch b = fold_out-Branch A B step branch b
