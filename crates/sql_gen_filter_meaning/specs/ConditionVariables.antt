-- The variables of a condition (SPARQL 1.1 Query, section 18.2.1, for its expressions).
use Rattle.std.specs.Prelude.{ℕ, zero, suc, false, ◌||◌, ◌==◌, List, [], ◌∷◌, ◌++◌}
use Rattle.std.specs.List.{filter, list_any}
use Rattle.query_meaning.specs.declared.expression.ValueExpr.{ValueExpr, fold-ValueExpr}
use Rattle.query_meaning.specs.declared.expression.ValueExpr.TheOpen as value
use Rattle.query_meaning.specs.declared.expression.ValueExpr.TheOpen.{ValueExpr-F}
use Rattle.query_meaning.specs.declared.expression.TruthExpr.{TruthExpr, fold-TruthExpr}
use Rattle.query_meaning.specs.declared.expression.TruthExpr.TheOpen as truth
use Rattle.query_meaning.specs.declared.expression.TruthExpr.TheOpen.{TruthExpr-F}
use Rattle.query_eval_meaning.specs.Mapping.{width}
use Rattle.query_eval_meaning.specs.Variables.{Variables}

abbrev pub value_variables_step : ValueExpr-F Variables → Variables
value_variables_step (value.Var v) w = w == v
value_variables_step (value.Const t) w = false
value_variables_step (value.Str e) w = e w
value_variables_step (value.Lang e) w = e w
value_variables_step (value.Datatype e) w = e w

abbrev pub value_variables : ValueExpr → Variables
value_variables = fold-ValueExpr Variables value_variables_step

abbrev pub truth_variables_step : TruthExpr-F Variables → Variables
truth_variables_step (truth.Value e) w = value_variables e w
truth_variables_step (truth.Bound v) w = w == v
truth_variables_step (truth.Compare c a b) w = value_variables a w || value_variables b w
truth_variables_step (truth.OneOf e es) w = value_variables e w || list_any (λ d. value_variables d w) es
truth_variables_step (truth.SameTerm a b) w = value_variables a w || value_variables b w
truth_variables_step (truth.Is t e) w = value_variables e w
truth_variables_step (truth.Not e) w = e w
truth_variables_step (truth.All es) w = list_any (λ e. e w) es
truth_variables_step (truth.Any es) w = list_any (λ e. e w) es

-- the variables that stand in an expression
abbrev pub truth_variables : TruthExpr → Variables
truth_variables = fold-TruthExpr Variables truth_variables_step

-- the numbers below n, from 0
abbrev pub numbers_below : ℕ → List ℕ
numbers_below zero = []
numbers_below (suc n) = numbers_below n ++ n ∷ []

-- the variables of a condition, each once, by rising number
abbrev pub condition_variables : TruthExpr → List ℕ
condition_variables e = filter (truth_variables e) (numbers_below width)
