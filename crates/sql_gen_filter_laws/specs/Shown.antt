-- What the columns of a value expression say.
use Rattle.std.specs.Prelude.{◌≡◌, ℕ, List}
use Rattle.query_eval_meaning.specs.Mapping.{Mapping}
use Rattle.query_eval_meaning.specs.Expressions.{Value}
use Rattle.sql_rows_meaning.specs.Values.{Sight, value_of}
use Rattle.sql_gen_term_laws.specs.TermTable.{class_cell, number_cell, text_cell, aux_cell, Shows}
use Rattle.sql_gen_filter_meaning.specs.Columns.{ValueSql}

-- the four columns are the term's, or nulls for an error
pub record Shown (a : ValueSql) (x : Value) (env : Sight) : Type 0 where
  pub class : value_of a.class env ≡ class_cell x
  pub number : value_of a.number env ≡ number_cell x
  pub text : value_of a.text env ≡ text_cell x
  pub aux : value_of a.aux env ≡ aux_cell x

-- in every row that shows a solution's terms, they are what the expression gives over the solution
abbrev pub Gives : List ℕ → ValueSql → (Mapping → Value) → Type 0
Gives us a value = (m : Mapping) (env : Sight) → Shows us m env → Shown a (value m) env
