-- The outs of the kinds of nodes (this project's own).
use Rattle.std.specs.Prelude.{◌+◌, ◌∷◌, ◌≡◌, Bool, List, Ok, [], false, true, ℕ}
use Rattle.std.specs.List.{filter}
use Rattle.query_eval_meaning.specs.Expressions.{truth_over}
use Rattle.query_eval_meaning.specs.Variables.{in_both, in_either}
use Rattle.query_meaning.specs.declared.expression.TruthExpr.{TruthExpr}
use Rattle.sql_gen_binding_laws.specs.StepColumns.{Once, TermsSeen}
use Rattle.sql_gen_form_laws.specs.Fits.{AreVariables, ExprFits}
use Rattle.sql_gen_numbered_meaning.specs.declared.numbered.NumberedBody.{NumberedBody}
use Rattle.sql_gen_numbered_meaning.specs.declared.numbered.NumberedBody.TheVariants.{Filtered, Joined, Matched, Optional, Passed, Single, United}
use Rattle.sql_gen_out_laws.specs.Further.{before_more, first_out, put_after, put_behind}
use Rattle.sql_gen_out_laws.specs.Outs.{Out, count}
use Rattle.sql_gen_step_laws.specs.StepSelects.{both, shared}
use Rattle.sql_gen_term_laws.specs.Filters.{Means}
use Rattle.sql_meaning.specs.Scripts.{most_levels}
use Rattle.sql_meaning.specs.declared.expression.SqlExpr.{SqlExpr}
use Rattle.sql_rows_meaning.specs.Checks.{check}
use Rattle.sql_rows_meaning.specs.Scopes.{Scope}
use Rattle.table_meaning.specs.declared.kind.Kind.TheVariants as kind

-- ---- variables that are certain

-- what both sides have and are certain to bind
abbrev pub certain_shared : Out → Out → List ℕ
certain_shared x y = filter (in_both x.certain y.certain) (shared x.variables y.variables)

-- the variables of the left side that it is certain to bind
abbrev pub certain_own : Out → List ℕ
certain_own x = filter x.certain x.variables

-- ---- the empty leaf

abbrev pub empty_out : Out
empty_out = first_out Single [] (λ v. false)

-- ---- Join, LeftJoin without a condition, and Union: one step over both outs

abbrev pub pair_step : Bool → Out → Out → NumberedBody
pair_step left x y = Joined left x.last (count x + y.last) x.variables y.variables (certain_shared x y)

abbrev pub joined_out : Out → Out → Out
joined_out x y = put_behind x y (pair_step false x y ∷ []) (before_more x y) (both x.variables y.variables) (in_either x.certain y.certain)

abbrev pub optional_out : Out → Out → Out
optional_out x y = put_behind x y (pair_step true x y ∷ []) (before_more x y) (both x.variables y.variables) x.certain

abbrev pub united_out : Out → Out → Out
united_out x y = put_behind x y (United x.last (count x + y.last) x.variables y.variables ∷ []) (before_more x y) (both x.variables y.variables) (in_both x.certain y.certain)

-- ---- Filter: one step over the out

-- the SQL of a condition over the terms of some variables: it means the truth, is of kind truth, and is not too deep
pub record IsCondition (f : TruthExpr) (us : List ℕ) (condition : SqlExpr) : Type 0 where
  pub means : Means us condition (truth_over f)
  pub once : Once us
  pub in_width : AreVariables us
  pub truth : (s : Scope) → TermsSeen us s → check condition s ≡ Ok kind.Truth
  pub fits : ExprFits most_levels condition

abbrev pub filtered_out : Out → List ℕ → SqlExpr → Out
filtered_out x us condition = put_after x (Filtered x.last x.variables us condition ∷ []) (count x) x.variables x.certain

-- ---- LeftJoin with a condition: the pairs that fit, those that pass, and the rows of the left side without one

abbrev pub matched_step : Out → Out → NumberedBody
matched_step x y = Matched x.last (count x + y.last) x.variables y.variables (certain_shared x y)

abbrev pub passed_step : Out → Out → List ℕ → SqlExpr → NumberedBody
passed_step x y us condition = Passed (before_more x y) x.variables y.variables us condition

abbrev pub kept_step : Out → Out → NumberedBody
kept_step x y = Optional x.last (before_more x y + 1) x.variables y.variables (certain_own x)

abbrev pub conditional_steps : Out → Out → List ℕ → SqlExpr → List NumberedBody
conditional_steps x y us condition = matched_step x y ∷ passed_step x y us condition ∷ kept_step x y ∷ []

abbrev pub conditional_out : Out → Out → List ℕ → SqlExpr → Out
conditional_out x y us condition = put_behind x y (conditional_steps x y us condition) (before_more x y + 2) (both x.variables y.variables) x.certain
