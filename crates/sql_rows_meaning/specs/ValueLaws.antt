-- The value of each kind of expression.
use Rattle.std.specs.Prelude.{◌≡◌, ℕ, ℤ, Bool, List, [], ◌∷◌, map, refl}
use Rattle.std.proofs.Common.{ap, ◌∙◌}
use Rattle.table_meaning.specs.declared.kind.Kind.{Kind}
use Rattle.table_meaning.specs.declared.cell.Cell.{Cell}
use Rattle.table_meaning.specs.declared.cell.Cell.TheVariants.{Null, Int, Text, Truth}
use Rattle.sql_meaning.specs.declared.expression.SqlExpr.{SqlExpr}
use Rattle.sql_meaning.specs.declared.expression.SqlExpr.TheVariants as sql
use Rattle.sql_meaning.specs.declared.expression.Branch.{Branch, fold-Branch}
use Rattle.sql_meaning.specs.Levels.{fold_name, fold_int, fold_text, fold_truth, fold_null, fold_equal, fold_less, fold_all, fold_any, fold_not, fold_is_null, fold_case, fold_first, fold_branch}
use Rattle.sql_rows_meaning.specs.Cells.{is_null, equal_cells, less_cells}
use Rattle.sql_rows_meaning.specs.Values.{Sight, Tried, value_of, value_step, tried_step, all_cells, any_cells, not_cell, first_true, first_cell}

abbrev at : Sight → (Sight → Cell) → Cell
at sight f = f sight

-- what a branch's test and its value give
abbrev pub tried : Branch → Sight → Tried
tried = fold-Branch (Sight → Cell) (Sight → Tried) value_step tried_step

pub tried-is : (b : Branch) (s : Sight) → tried b s ≡ record { test = value_of b.test s; value = value_of b.value s }
tried-is b s = ap (λ (f : Sight → Tried). f s) (fold_branch value_step tried_step b)

through : {X Y : Type 0} (f : X → Sight → Y) (s : Sight) (xs : List X) → map (λ (g : Sight → Y). g s) (map f xs) ≡ map (λ x. f x s) xs
through f s [] = refl
through {X} {Y} f s (x ∷ xs) = ap (λ (ys : List Y). f x s ∷ ys) (through f s xs)

pub value_of-Name : (a c : List ℕ) (s : Sight) → value_of (sql.Name a c) s ≡ s a c
value_of-Name a c s = ap (at s) (fold_name value_step tried_step a c)

pub value_of-Int : (n : ℤ) (s : Sight) → value_of (sql.Int n) s ≡ Int n
value_of-Int n s = ap (at s) (fold_int value_step tried_step n)

pub value_of-Text : (t : List ℕ) (s : Sight) → value_of (sql.Text t) s ≡ Text t
value_of-Text t s = ap (at s) (fold_text value_step tried_step t)

pub value_of-Truth : (b : Bool) (s : Sight) → value_of (sql.Truth b) s ≡ Truth b
value_of-Truth b s = ap (at s) (fold_truth value_step tried_step b)

pub value_of-Null : (k : Kind) (s : Sight) → value_of (sql.Null k) s ≡ Null
value_of-Null k s = ap (at s) (fold_null value_step tried_step k)

pub value_of-Equal : (a b : SqlExpr) (s : Sight) → value_of (sql.Equal a b) s ≡ equal_cells (value_of a s) (value_of b s)
value_of-Equal a b s = ap (at s) (fold_equal value_step tried_step a b)

pub value_of-Less : (a b : SqlExpr) (s : Sight) → value_of (sql.Less a b) s ≡ less_cells (value_of a s) (value_of b s)
value_of-Less a b s = ap (at s) (fold_less value_step tried_step a b)

pub value_of-All : (es : List SqlExpr) (s : Sight) → value_of (sql.All es) s ≡ all_cells (map (λ e. value_of e s) es)
value_of-All es s = ap (at s) (fold_all value_step tried_step es) ∙ ap all_cells (through value_of s es)

pub value_of-Any : (es : List SqlExpr) (s : Sight) → value_of (sql.Any es) s ≡ any_cells (map (λ e. value_of e s) es)
value_of-Any es s = ap (at s) (fold_any value_step tried_step es) ∙ ap any_cells (through value_of s es)

pub value_of-Not : (a : SqlExpr) (s : Sight) → value_of (sql.Not a) s ≡ not_cell (value_of a s)
value_of-Not a s = ap (at s) (fold_not value_step tried_step a)

pub value_of-IsNull : (a : SqlExpr) (s : Sight) → value_of (sql.IsNull a) s ≡ Truth (is_null (value_of a s))
value_of-IsNull a s = ap (at s) (fold_is_null value_step tried_step a)

pub value_of-Case : (bs : List Branch) (a : SqlExpr) (s : Sight) → value_of (sql.Case bs a) s ≡ first_true (map (λ b. tried b s) bs) (value_of a s)
value_of-Case bs a s = ap (at s) (fold_case value_step tried_step bs a) ∙ ap (λ (ts : List Tried). first_true ts (value_of a s)) (through tried s bs)

pub value_of-First : (es : List SqlExpr) (s : Sight) → value_of (sql.First es) s ≡ first_cell (map (λ e. value_of e s) es)
value_of-First es s = ap (at s) (fold_first value_step tried_step es) ∙ ap first_cell (through value_of s es)
