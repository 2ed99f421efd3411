-- A fold over an expression with places by its first level.
use Rattle.std.proofs.Common.{◌≡◌, sym, ap, ◌∙◌, List, ℕ, ℤ, Bool}
use Rattle.std.specs.Prelude.{map}
use Rattle.sql_bind_meaning.specs.declared.expression.BoundExpr.{BoundExpr, fold-BoundExpr, fold-roll-BoundExpr}
use Rattle.sql_bind_meaning.specs.declared.expression.BoundExpr.TheVariants as v
use Rattle.sql_bind_meaning.specs.declared.expression.BoundExpr.TheOpen as o
use Rattle.sql_bind_meaning.specs.declared.expression.BoundExpr.TheOpen.{BoundExpr-F}
use Rattle.sql_bind_meaning.specs.declared.expression.BoundBranch.{BoundBranch, BoundBranch-F, fold-BoundBranch, fold_out-BoundBranch}

module _ {A B : Type 0} (step : BoundExpr-F A B → A) (branch : BoundBranch-F A B → B) where
  pub fold_cell : (s c : ℕ) → fold-BoundExpr A B step branch (v.Cell s c) ≡ step (o.Cell s c)
  fold_cell s c = ap (λ e. fold-BoundExpr A B step branch e) (sym (v.rolls-Cell s c)) ∙ fold-roll-BoundExpr A B step branch (o.Cell s c)

  pub fold_int : (n : ℤ) → fold-BoundExpr A B step branch (v.Int n) ≡ step (o.Int n)
  fold_int n = ap (λ e. fold-BoundExpr A B step branch e) (sym (v.rolls-Int n)) ∙ fold-roll-BoundExpr A B step branch (o.Int n)

  pub fold_text : (s : List ℕ) → fold-BoundExpr A B step branch (v.Text s) ≡ step (o.Text s)
  fold_text s = ap (λ e. fold-BoundExpr A B step branch e) (sym (v.rolls-Text s)) ∙ fold-roll-BoundExpr A B step branch (o.Text s)

  pub fold_truth : (b : Bool) → fold-BoundExpr A B step branch (v.Truth b) ≡ step (o.Truth b)
  fold_truth b = ap (λ e. fold-BoundExpr A B step branch e) (sym (v.rolls-Truth b)) ∙ fold-roll-BoundExpr A B step branch (o.Truth b)

  pub fold_null : fold-BoundExpr A B step branch v.Null ≡ step o.Null
  fold_null = ap (λ e. fold-BoundExpr A B step branch e) (sym v.rolls-Null) ∙ fold-roll-BoundExpr A B step branch o.Null

  pub fold_equal : (a b : BoundExpr) → fold-BoundExpr A B step branch (v.Equal a b) ≡ step (o.Equal (fold-BoundExpr A B step branch a) (fold-BoundExpr A B step branch b))
  fold_equal a b = ap (λ e. fold-BoundExpr A B step branch e) (sym (v.rolls-Equal a b)) ∙ fold-roll-BoundExpr A B step branch (o.Equal a b)

  pub fold_less : (a b : BoundExpr) → fold-BoundExpr A B step branch (v.Less a b) ≡ step (o.Less (fold-BoundExpr A B step branch a) (fold-BoundExpr A B step branch b))
  fold_less a b = ap (λ e. fold-BoundExpr A B step branch e) (sym (v.rolls-Less a b)) ∙ fold-roll-BoundExpr A B step branch (o.Less a b)

  pub fold_all : (es : List BoundExpr) → fold-BoundExpr A B step branch (v.All es) ≡ step (o.All (map (fold-BoundExpr A B step branch) es))
  fold_all es = ap (λ e. fold-BoundExpr A B step branch e) (sym (v.rolls-All es)) ∙ fold-roll-BoundExpr A B step branch (o.All es)

  pub fold_any : (es : List BoundExpr) → fold-BoundExpr A B step branch (v.Any es) ≡ step (o.Any (map (fold-BoundExpr A B step branch) es))
  fold_any es = ap (λ e. fold-BoundExpr A B step branch e) (sym (v.rolls-Any es)) ∙ fold-roll-BoundExpr A B step branch (o.Any es)

  pub fold_not : (a : BoundExpr) → fold-BoundExpr A B step branch (v.Not a) ≡ step (o.Not (fold-BoundExpr A B step branch a))
  fold_not a = ap (λ e. fold-BoundExpr A B step branch e) (sym (v.rolls-Not a)) ∙ fold-roll-BoundExpr A B step branch (o.Not a)

  pub fold_is_null : (a : BoundExpr) → fold-BoundExpr A B step branch (v.IsNull a) ≡ step (o.IsNull (fold-BoundExpr A B step branch a))
  fold_is_null a = ap (λ e. fold-BoundExpr A B step branch e) (sym (v.rolls-IsNull a)) ∙ fold-roll-BoundExpr A B step branch (o.IsNull a)

  pub fold_case : (bs : List BoundBranch) (a : BoundExpr) → fold-BoundExpr A B step branch (v.Case bs a) ≡ step (o.Case (map (fold-BoundBranch A B step branch) bs) (fold-BoundExpr A B step branch a))
  fold_case bs a = ap (λ e. fold-BoundExpr A B step branch e) (sym (v.rolls-Case bs a)) ∙ fold-roll-BoundExpr A B step branch (o.Case bs a)

  pub fold_first : (es : List BoundExpr) → fold-BoundExpr A B step branch (v.First es) ≡ step (o.First (map (fold-BoundExpr A B step branch) es))
  fold_first es = ap (λ e. fold-BoundExpr A B step branch e) (sym (v.rolls-First es)) ∙ fold-roll-BoundExpr A B step branch (o.First es)

  pub fold_branch : (b : BoundBranch) → fold-BoundBranch A B step branch b ≡ branch (record { test = fold-BoundExpr A B step branch b.test; value = fold-BoundExpr A B step branch b.value })
  fold_branch b = fold_out-BoundBranch A B step branch b
