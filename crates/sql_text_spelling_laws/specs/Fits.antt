-- Expressions that stand inside so few others that their parts are within 1,024 levels.
use Rattle.std.specs.Prelude.{true, ℕ, suc, ◌+◌, ◌≤◌, max}
use Rattle.std.proofs.Common.{◌≡◌, arith}
use Rattle.std.proofs.lemmas.Bool.{lt-ltb}
use Rattle.sql_meaning.specs.Grammar.{limited}
use Rattle.sql_meaning.specs.Levels.{fold_name, fold_int, fold_text, fold_truth, fold_null, fold_equal, fold_less, fold_all, fold_any, fold_not, fold_is_null, fold_case, fold_first}
use Rattle.sql_meaning.specs.Scripts.{expr_depth, depth_step, branch_depth, most_levels}
use Rattle.sql_meaning.specs.declared.expression.SqlExpr.{SqlExpr}
use Rattle.sql_text_spelling_laws.specs.Induction.{every_expr}

-- what stands inside n others and has this depth is within the levels
abbrev pub Fits : ℕ → ℕ → Type 0
Fits n depth = n + depth ≤ most_levels

pub fits_left : (n a b : ℕ) → Fits n (max a b) → Fits n a
fits_left n a b h = omega arith

pub fits_right : (n a b : ℕ) → Fits n (max a b) → Fits n b
fits_right n a b h = omega arith

-- the parts of an expression stand inside one more
pub fits_inside : (n whole part : ℕ) → whole ≡ suc part → Fits n whole → Fits (n + 1) part
fits_inside n whole part e h = omega arith

leaf : {d : ℕ} → d ≡ 1 → 1 ≤ d
leaf e = omega arith

some : {d k : ℕ} → d ≡ suc k → 1 ≤ d
some e = omega arith

pub is_some_depth : (e : SqlExpr) → 1 ≤ expr_depth e
is_some_depth = every_expr (λ e. 1 ≤ expr_depth e) (record {
  name = λ a c. leaf (fold_name depth_step branch_depth a c);
  int = λ n. leaf (fold_int depth_step branch_depth n);
  text = λ s. leaf (fold_text depth_step branch_depth s);
  truth = λ b. leaf (fold_truth depth_step branch_depth b);
  null = λ k. leaf (fold_null depth_step branch_depth k);
  equal = λ a b p q. some (fold_equal depth_step branch_depth a b);
  less = λ a b p q. some (fold_less depth_step branch_depth a b);
  all = λ es p. some (fold_all depth_step branch_depth es);
  any = λ es p. some (fold_any depth_step branch_depth es);
  not = λ a p. some (fold_not depth_step branch_depth a);
  is_null = λ a p. some (fold_is_null depth_step branch_depth a);
  case = λ bs last p q. some (fold_case depth_step branch_depth bs last);
  first = λ es p. some (fold_first depth_step branch_depth es);
})

-- an expression may stand here
pub fits_here : (n : ℕ) (e : SqlExpr) → Fits n (expr_depth e) → limited n ≡ true
fits_here n e h = let k = is_some_depth e in lt-ltb n most_levels (omega arith)
