-- The value at the beginning of a chain of functions.
use Rattle.sql_gen_filter_meaning.specs.Columns.{ValueSql, variable_value, constant_value}
use Rattle.sql_gen_filter_values.specs.declared.start.Start.{Start}
use Rattle.sql_gen_filter_values.specs.declared.start.Start.TheVariants.{Variable, Constant}

abbrev pub start_value : Start → ValueSql
start_value (Variable v) = variable_value v
start_value (Constant t) = constant_value t
