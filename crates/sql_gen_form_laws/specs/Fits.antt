-- Expressions, SELECTs and bodies of the forms of the dialect's grammar, that aren't too deep (this project's own).
use Rattle.std.specs.Prelude.{◌≡◌, ℕ, ◌<◌, ◌≤◌, Bool, true, ◌&&◌, nat_le, List, map, Option}
use Rattle.std.specs.List.{AllByRecursion}
use Rattle.query_eval_meaning.specs.Mapping.{width}
use Rattle.sql_meaning.specs.declared.expression.Branch.{Branch}
use Rattle.sql_meaning.specs.declared.expression.SqlExpr.{SqlExpr}
use Rattle.sql_meaning.specs.declared.script.Body.{Body}
use Rattle.sql_meaning.specs.declared.script.Core.{Core}
use Rattle.sql_meaning.specs.declared.script.Item.{Item}
use Rattle.sql_meaning.specs.declared.script.JoinTo.{JoinTo}
use Rattle.sql_meaning.specs.declared.script.SqlKey.{SqlKey}
use Rattle.sql_meaning.specs.declared.script.Step.{Step}
use Rattle.sql_meaning.specs.Scripts.{largest, all_of, expr_form, expr_depth, condition_form, condition_depth, item_form, item_depth, join_form, join_depth, key_form, key_depth, core_form, core_depth, body_form, body_depth, step_form, step_depth, most_levels}

-- an expression of the grammar's form, at most n levels deep
pub record ExprFits (n : ℕ) (e : SqlExpr) : Type 0 where
  pub form : expr_form e ≡ true
  pub depth : expr_depth e ≤ n

-- so are the test and the value of a branch of CASE,
pub record BranchFits (n : ℕ) (b : Branch) : Type 0 where
  pub test : ExprFits n b.test
  pub value : ExprFits n b.value

-- the columns of a SELECT, each with a name,
pub record ItemsFit (n : ℕ) (items : List Item) : Type 0 where
  pub form : all_of item_form items ≡ true
  pub depth : largest (map item_depth items) ≤ n

-- its joins, each of a name and with an alias,
pub record JoinsFit (n : ℕ) (joins : List JoinTo) : Type 0 where
  pub form : all_of join_form joins ≡ true
  pub depth : largest (map join_depth joins) ≤ n

-- its condition, if it has one,
pub record ConditionFits (n : ℕ) (condition : Option SqlExpr) : Type 0 where
  pub form : condition_form condition ≡ true
  pub depth : condition_depth condition ≤ n

-- its keys,
pub record KeysFit (n : ℕ) (keys : List SqlKey) : Type 0 where
  pub form : all_of key_form keys ≡ true
  pub depth : largest (map key_depth keys) ≤ n

-- the SELECT,
pub record CoreFits (n : ℕ) (c : Core) : Type 0 where
  pub form : core_form c ≡ true
  pub depth : core_depth c ≤ n

-- and the body of a step
pub record BodyFits (n : ℕ) (b : Body) : Type 0 where
  pub form : body_form b ≡ true
  pub depth : body_depth b ≤ n

-- a body that a script can have, and a step
abbrev pub body_fits : Body → Bool
body_fits b = body_form b && nat_le (body_depth b) most_levels

abbrev pub step_fits : Step → Bool
step_fits s = step_form s && nat_le (step_depth s) most_levels

-- the numbers of variables, which have columns of their own
abbrev pub AreVariables : List ℕ → Type 0
AreVariables vs = AllByRecursion (λ v. v < width) vs
