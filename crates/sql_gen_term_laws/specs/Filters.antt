-- The SELECT of a filter.
use Rattle.std.specs.Prelude.{◌≡◌, ℕ, false, List, [], ◌∷◌, map, Some, None}
use Rattle.query_eval_meaning.specs.Expressions.{Truth as Truth3}
use Rattle.query_eval_meaning.specs.Mapping.{Mapping}
use Rattle.table_meaning.specs.declared.cell.Cell.{Cell}
use Rattle.table_meaning.specs.declared.cell.Cell.TheVariants.{Null, Truth}
use Rattle.sql_meaning.specs.declared.script.Core.{Core}
use Rattle.sql_meaning.specs.declared.expression.SqlExpr.{SqlExpr}
use Rattle.sql_rows_meaning.specs.Values.{Sight, value_of}
use Rattle.sql_gen_step_laws.specs.Carried.{Name}
use Rattle.sql_gen_step_laws.specs.StepSelects.{left_alias, one_item, variable_item, own_sql}
use Rattle.sql_gen_term_laws.specs.TermTable.{own_test, term_joins, Shows}

-- the rows of a step of which the condition is true, over the terms of the variables us
abbrev pub filter_core : Name → Name → List ℕ → List ℕ → SqlExpr → Core
filter_core a terms vs us condition = record {
  distinct = false;
  items = one_item ∷ map (variable_item (own_sql vs)) vs;
  from = Some (record { table = a; alias = left_alias });
  joins = term_joins terms (own_test vs) us;
  condition = Some condition;
  keys = [];
  most = None;
  skip = None;
}

abbrev pub truth_cell : Truth3 → Cell
truth_cell None = Null
truth_cell (Some b) = Truth b

-- the condition's value_of is the truth of the filter
abbrev pub Means : List ℕ → SqlExpr → (Mapping → Truth3) → Type 0
Means us condition truth = (m : Mapping) (env : Sight) → Shows us m env → value_of condition env ≡ truth_cell (truth m)
