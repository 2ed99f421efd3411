-- Tests of each variable and each constant of an expression (this project's own).
use Rattle.std.specs.Prelude.{ℕ, Bool, true, ◌&&◌, List}
use Rattle.std.specs.List.{list_all}
use Rattle.rdf_meaning.specs.Terms.{RdfTerm}
use Rattle.query_meaning.specs.declared.expression.ValueExpr.{ValueExpr, fold-ValueExpr}
use Rattle.query_meaning.specs.declared.expression.ValueExpr.TheOpen as value
use Rattle.query_meaning.specs.declared.expression.ValueExpr.TheOpen.{ValueExpr-F}
use Rattle.query_meaning.specs.declared.expression.TruthExpr.{TruthExpr, fold-TruthExpr}
use Rattle.query_meaning.specs.declared.expression.TruthExpr.TheOpen as truth
use Rattle.query_meaning.specs.declared.expression.TruthExpr.TheOpen.{TruthExpr-F}
use Rattle.sql_gen_step_laws.specs.StepSelects.{has}

module _ (variable : ℕ → Bool) (constant : RdfTerm → Bool) where
  abbrev pub value_passes_step : ValueExpr-F Bool → Bool
  value_passes_step (value.Var v) = variable v
  value_passes_step (value.Const t) = constant t
  value_passes_step (value.Str e) = e
  value_passes_step (value.Lang e) = e
  value_passes_step (value.Datatype e) = e

  -- each variable and each constant of the value passes its test
  abbrev pub value_passes : ValueExpr → Bool
  value_passes = fold-ValueExpr Bool value_passes_step

  abbrev pub truth_passes_step : TruthExpr-F Bool → Bool
  truth_passes_step (truth.Value e) = value_passes e
  truth_passes_step (truth.Bound v) = variable v
  truth_passes_step (truth.Compare c a b) = value_passes a && value_passes b
  truth_passes_step (truth.OneOf e es) = value_passes e && list_all value_passes es
  truth_passes_step (truth.SameTerm a b) = value_passes a && value_passes b
  truth_passes_step (truth.Is t e) = value_passes e
  truth_passes_step (truth.Not e) = e
  truth_passes_step (truth.All es) = list_all (λ b. b) es
  truth_passes_step (truth.Any es) = list_all (λ b. b) es

  -- each variable and each constant of the expression passes its test
  abbrev pub truth_passes : TruthExpr → Bool
  truth_passes = fold-TruthExpr Bool truth_passes_step

abbrev pub any_term : RdfTerm → Bool
any_term t = true

-- each variable is one of these
abbrev pub value_names : List ℕ → ValueExpr → Bool
value_names us = value_passes (has us) any_term

abbrev pub truth_names : List ℕ → TruthExpr → Bool
truth_names us = truth_passes (has us) any_term
