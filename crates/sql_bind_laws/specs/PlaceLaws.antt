-- Each kind of expression with places for its names.
use Rattle.std.specs.Prelude.{◌≡◌, ℕ, ℤ, Bool, List, [], ◌∷◌, map, refl}
use Rattle.std.proofs.Common.{ap, ◌∙◌}
use Rattle.table_meaning.specs.declared.kind.Kind.{Kind}
use Rattle.sql_meaning.specs.declared.expression.SqlExpr.{SqlExpr}
use Rattle.sql_meaning.specs.declared.expression.SqlExpr.TheVariants as sql
use Rattle.sql_meaning.specs.declared.expression.Branch.{Branch}
use Rattle.sql_meaning.specs.Levels.{fold_name, fold_int, fold_text, fold_truth, fold_null, fold_equal, fold_less, fold_all, fold_any, fold_not, fold_is_null, fold_case, fold_first, fold_branch}
use Rattle.sql_bind_meaning.specs.declared.expression.BoundExpr.{BoundExpr}
use Rattle.sql_bind_meaning.specs.declared.expression.BoundExpr.TheVariants as v
use Rattle.sql_bind_meaning.specs.declared.expression.BoundBranch.{BoundBranch}
use Rattle.sql_bind_laws.specs.Places.{Places, place, place_step, place_branch, place_branch_step}

abbrev at : Places → (Places → BoundExpr) → BoundExpr
at places f = f places

pub place_branch-is : (b : Branch) (s : Places) → place_branch b s ≡ record { test = place b.test s; value = place b.value s }
place_branch-is b s = ap (λ (f : Places → BoundBranch). f s) (fold_branch place_step place_branch_step b)

through : {X Y : Type 0} (f : X → Places → Y) (s : Places) (xs : List X) → map (λ (g : Places → Y). g s) (map f xs) ≡ map (λ x. f x s) xs
through f s [] = refl
through {X} {Y} f s (x ∷ xs) = ap (λ (ys : List Y). f x s ∷ ys) (through f s xs)

pub place-Name : (a c : List ℕ) (s : Places) → place (sql.Name a c) s ≡ s a c
place-Name a c s = ap (at s) (fold_name place_step place_branch_step a c)

pub place-Int : (n : ℤ) (s : Places) → place (sql.Int n) s ≡ v.Int n
place-Int n s = ap (at s) (fold_int place_step place_branch_step n)

pub place-Text : (t : List ℕ) (s : Places) → place (sql.Text t) s ≡ v.Text t
place-Text t s = ap (at s) (fold_text place_step place_branch_step t)

pub place-Truth : (b : Bool) (s : Places) → place (sql.Truth b) s ≡ v.Truth b
place-Truth b s = ap (at s) (fold_truth place_step place_branch_step b)

pub place-Null : (k : Kind) (s : Places) → place (sql.Null k) s ≡ v.Null
place-Null k s = ap (at s) (fold_null place_step place_branch_step k)

pub place-Equal : (a b : SqlExpr) (s : Places) → place (sql.Equal a b) s ≡ v.Equal (place a s) (place b s)
place-Equal a b s = ap (at s) (fold_equal place_step place_branch_step a b)

pub place-Less : (a b : SqlExpr) (s : Places) → place (sql.Less a b) s ≡ v.Less (place a s) (place b s)
place-Less a b s = ap (at s) (fold_less place_step place_branch_step a b)

pub place-All : (es : List SqlExpr) (s : Places) → place (sql.All es) s ≡ v.All (map (λ e. place e s) es)
place-All es s = ap (at s) (fold_all place_step place_branch_step es) ∙ ap v.All (through place s es)

pub place-Any : (es : List SqlExpr) (s : Places) → place (sql.Any es) s ≡ v.Any (map (λ e. place e s) es)
place-Any es s = ap (at s) (fold_any place_step place_branch_step es) ∙ ap v.Any (through place s es)

pub place-Not : (a : SqlExpr) (s : Places) → place (sql.Not a) s ≡ v.Not (place a s)
place-Not a s = ap (at s) (fold_not place_step place_branch_step a)

pub place-IsNull : (a : SqlExpr) (s : Places) → place (sql.IsNull a) s ≡ v.IsNull (place a s)
place-IsNull a s = ap (at s) (fold_is_null place_step place_branch_step a)

pub place-Case : (bs : List Branch) (a : SqlExpr) (s : Places) → place (sql.Case bs a) s ≡ v.Case (map (λ b. place_branch b s) bs) (place a s)
place-Case bs a s = ap (at s) (fold_case place_step place_branch_step bs a) ∙ ap (λ (cs : List BoundBranch). v.Case cs (place a s)) (through place_branch s bs)

pub place-First : (es : List SqlExpr) (s : Places) → place (sql.First es) s ≡ v.First (map (λ e. place e s) es)
place-First es s = ap (at s) (fold_first place_step place_branch_step es) ∙ ap v.First (through place s es)

pub ruleset placing = (place-Name, place-Int, place-Text, place-Truth, place-Null, place-Equal, place-Less, place-All, place-Any, place-Not, place-IsNull, place-Case, place-First)
