-- Depths by the first level of an expression.
use Rattle.std.proofs.Common.{◌≡◌, ◌∙◌, ap, List, [], ◌∷◌, ℕ, ℤ, Bool, suc, max, refl}
use Rattle.std.specs.Prelude.{map}
use Rattle.table_meaning.specs.declared.kind.Kind.{Kind}
use Rattle.sql_meaning.specs.Levels.{fold_name, fold_int, fold_text, fold_truth, fold_null, fold_equal, fold_less, fold_all, fold_any, fold_not, fold_is_null, fold_case, fold_first, fold_branch}
use Rattle.sql_meaning.specs.Scripts.{largest, depth_step, expr_depth}
use Rattle.sql_meaning.specs.Scripts as scripts
use Rattle.sql_meaning.specs.declared.expression.SqlExpr.{SqlExpr}
use Rattle.sql_meaning.specs.declared.expression.SqlExpr.TheVariants as v
use Rattle.sql_meaning.specs.declared.expression.Branch.{Branch, fold-Branch}

abbrev pub branch_depth : Branch → ℕ
branch_depth b = max (expr_depth b.test) (expr_depth b.value)

pub depth_name : (a c : List ℕ) → expr_depth (v.Name a c) ≡ 1
depth_name a c = fold_name depth_step scripts.branch_depth a c

pub depth_int : (n : ℤ) → expr_depth (v.Int n) ≡ 1
depth_int n = fold_int depth_step scripts.branch_depth n

pub depth_text : (s : List ℕ) → expr_depth (v.Text s) ≡ 1
depth_text s = fold_text depth_step scripts.branch_depth s

pub depth_truth : (b : Bool) → expr_depth (v.Truth b) ≡ 1
depth_truth b = fold_truth depth_step scripts.branch_depth b

pub depth_null : (k : Kind) → expr_depth (v.Null k) ≡ 1
depth_null k = fold_null depth_step scripts.branch_depth k

pub depth_equal : (a b : SqlExpr) → expr_depth (v.Equal a b) ≡ suc (max (expr_depth a) (expr_depth b))
depth_equal a b = fold_equal depth_step scripts.branch_depth a b

pub depth_less : (a b : SqlExpr) → expr_depth (v.Less a b) ≡ suc (max (expr_depth a) (expr_depth b))
depth_less a b = fold_less depth_step scripts.branch_depth a b

pub depth_all : (es : List SqlExpr) → expr_depth (v.All es) ≡ suc (largest (map expr_depth es))
depth_all es = fold_all depth_step scripts.branch_depth es

pub depth_any : (es : List SqlExpr) → expr_depth (v.Any es) ≡ suc (largest (map expr_depth es))
depth_any es = fold_any depth_step scripts.branch_depth es

pub depth_not : (a : SqlExpr) → expr_depth (v.Not a) ≡ suc (expr_depth a)
depth_not a = fold_not depth_step scripts.branch_depth a

pub depth_is_null : (a : SqlExpr) → expr_depth (v.IsNull a) ≡ suc (expr_depth a)
depth_is_null a = fold_is_null depth_step scripts.branch_depth a

branches : (bs : List Branch) → map (fold-Branch ℕ ℕ depth_step scripts.branch_depth) bs ≡ map branch_depth bs
branches [] = refl
branches (b ∷ bs) = let h = fold_branch depth_step scripts.branch_depth b in let k = branches bs in cc

pub depth_case : (bs : List Branch) (a : SqlExpr) → expr_depth (v.Case bs a) ≡ suc (max (largest (map branch_depth bs)) (expr_depth a))
depth_case bs a = fold_case depth_step scripts.branch_depth bs a ∙ ap (λ l. suc (max (largest l) (expr_depth a))) (branches bs)

pub depth_first : (es : List SqlExpr) → expr_depth (v.First es) ≡ suc (largest (map expr_depth es))
depth_first es = fold_first depth_step scripts.branch_depth es

pub ruleset depth_levels = (depth_name, depth_int, depth_text, depth_truth, depth_null, depth_equal, depth_less, depth_all, depth_any, depth_not, depth_is_null, depth_case, depth_first)
