-- The value of each kind of expression with places.
use Rattle.std.specs.Prelude.{◌≡◌, ℕ, ℤ, Bool, List, [], ◌∷◌, map, refl}
use Rattle.std.proofs.Common.{ap, ◌∙◌}
use Rattle.table_meaning.specs.declared.cell.Cell.{Cell}
use Rattle.table_meaning.specs.declared.cell.Cell.TheVariants.{Null, Int, Text, Truth}
use Rattle.sql_rows_meaning.specs.Cells.{is_null, equal_cells, less_cells}
use Rattle.sql_rows_meaning.specs.Values.{Tried, all_cells, any_cells, not_cell, first_true, first_cell}
use Rattle.sql_bind_meaning.specs.declared.expression.BoundExpr.{BoundExpr}
use Rattle.sql_bind_meaning.specs.declared.expression.BoundExpr.TheVariants as v
use Rattle.sql_bind_meaning.specs.declared.expression.BoundBranch.{BoundBranch}
use Rattle.sql_bind_meaning.specs.Levels.{fold_cell, fold_int, fold_text, fold_truth, fold_null, fold_equal, fold_less, fold_all, fold_any, fold_not, fold_is_null, fold_case, fold_first, fold_branch}
use Rattle.sql_bind_meaning.specs.Values.{Picked, cell_in, row_in, bound_step, bound_branch_step, bound_value, bound_tried}

abbrev at : Picked → (Picked → Cell) → Cell
at sight f = f sight

pub bound_tried-is : (b : BoundBranch) (s : Picked) → bound_tried b s ≡ record { test = bound_value b.test s; value = bound_value b.value s }
bound_tried-is b s = ap (λ (f : Picked → Tried). f s) (fold_branch bound_step bound_branch_step b)

through : {X Y : Type 0} (f : X → Picked → Y) (s : Picked) (xs : List X) → map (λ (g : Picked → Y). g s) (map f xs) ≡ map (λ x. f x s) xs
through f s [] = refl
through {X} {Y} f s (x ∷ xs) = ap (λ (ys : List Y). f x s ∷ ys) (through f s xs)

pub bound_value-Cell : (n c : ℕ) (s : Picked) → bound_value (v.Cell n c) s ≡ cell_in (row_in s n) c
bound_value-Cell n c s = ap (at s) (fold_cell bound_step bound_branch_step n c)

pub bound_value-Int : (n : ℤ) (s : Picked) → bound_value (v.Int n) s ≡ Int n
bound_value-Int n s = ap (at s) (fold_int bound_step bound_branch_step n)

pub bound_value-Text : (t : List ℕ) (s : Picked) → bound_value (v.Text t) s ≡ Text t
bound_value-Text t s = ap (at s) (fold_text bound_step bound_branch_step t)

pub bound_value-Truth : (b : Bool) (s : Picked) → bound_value (v.Truth b) s ≡ Truth b
bound_value-Truth b s = ap (at s) (fold_truth bound_step bound_branch_step b)

pub bound_value-Null : (s : Picked) → bound_value v.Null s ≡ Null
bound_value-Null s = ap (at s) (fold_null bound_step bound_branch_step)

pub bound_value-Equal : (a b : BoundExpr) (s : Picked) → bound_value (v.Equal a b) s ≡ equal_cells (bound_value a s) (bound_value b s)
bound_value-Equal a b s = ap (at s) (fold_equal bound_step bound_branch_step a b)

pub bound_value-Less : (a b : BoundExpr) (s : Picked) → bound_value (v.Less a b) s ≡ less_cells (bound_value a s) (bound_value b s)
bound_value-Less a b s = ap (at s) (fold_less bound_step bound_branch_step a b)

pub bound_value-All : (es : List BoundExpr) (s : Picked) → bound_value (v.All es) s ≡ all_cells (map (λ e. bound_value e s) es)
bound_value-All es s = ap (at s) (fold_all bound_step bound_branch_step es) ∙ ap all_cells (through bound_value s es)

pub bound_value-Any : (es : List BoundExpr) (s : Picked) → bound_value (v.Any es) s ≡ any_cells (map (λ e. bound_value e s) es)
bound_value-Any es s = ap (at s) (fold_any bound_step bound_branch_step es) ∙ ap any_cells (through bound_value s es)

pub bound_value-Not : (a : BoundExpr) (s : Picked) → bound_value (v.Not a) s ≡ not_cell (bound_value a s)
bound_value-Not a s = ap (at s) (fold_not bound_step bound_branch_step a)

pub bound_value-IsNull : (a : BoundExpr) (s : Picked) → bound_value (v.IsNull a) s ≡ Truth (is_null (bound_value a s))
bound_value-IsNull a s = ap (at s) (fold_is_null bound_step bound_branch_step a)

pub bound_value-Case : (bs : List BoundBranch) (a : BoundExpr) (s : Picked) → bound_value (v.Case bs a) s ≡ first_true (map (λ b. bound_tried b s) bs) (bound_value a s)
bound_value-Case bs a s = ap (at s) (fold_case bound_step bound_branch_step bs a) ∙ ap (λ (ts : List Tried). first_true ts (bound_value a s)) (through bound_tried s bs)

pub bound_value-First : (es : List BoundExpr) (s : Picked) → bound_value (v.First es) s ≡ first_cell (map (λ e. bound_value e s) es)
bound_value-First es s = ap (at s) (fold_first bound_step bound_branch_step es) ∙ ap first_cell (through bound_value s es)
