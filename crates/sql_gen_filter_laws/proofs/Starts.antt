-- The columns of a variable and of a constant.
use Rattle.std.proofs.Common.{◌≡◌, ℕ, ℤ, true, List, ◌∙◌, Option, Some, None}
use Rattle.rdf_meaning.specs.Terms.{RdfTerm}
use Rattle.rdf_value_meaning.specs.Values.{value_of as number_of}
use Rattle.table_meaning.specs.declared.kind.Kind.TheVariants as kind
use Rattle.sql_rows_meaning.specs.Values.{value_of}
use Rattle.sql_rows_meaning.specs.ValueLaws.{value_of-Name, value_of-Int, value_of-Text, value_of-Null}
use Rattle.sql_gen_step_laws.specs.StepSelects.{has}
use Rattle.sql_gen_term_laws.specs.TermTable.{value_cell}
use Rattle.sql_gen_filter_meaning.specs.Columns.{variable_value, constant_value, number_sql}
use Rattle.sql_gen_filter_laws.specs.Shown.{Gives}

pub variable_gives : (us : List ℕ) (v : ℕ) → has us v ≡ true → Gives us (variable_value v) (λ m. m v)
variable_gives us v h m env s = record {
  class = value_of-Name _ _ env ∙ s.class v h;
  number = value_of-Name _ _ env ∙ s.number v h;
  text = value_of-Name _ _ env ∙ s.text v h;
  aux = value_of-Name _ _ env ∙ s.aux v h;
}

pub constant_gives : (us : List ℕ) (t : RdfTerm) → Gives us (constant_value t) (λ m. Some t)
constant_gives us t m env s = record {
  class = value_of-Int _ env;
  number = number (number_of t);
  text = value_of-Text _ env;
  aux = value_of-Text _ env;
}
  where
    number : (o : Option ℤ) → value_of (number_sql o) env ≡ value_cell o
    number None = value_of-Null kind.Int env
    number (Some n) = value_of-Int n env
