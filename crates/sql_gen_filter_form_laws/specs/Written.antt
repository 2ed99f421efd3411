-- Expressions whose constants and variables can be written in the dialect (this project's own).
use Rattle.std.specs.Prelude.{ℕ, ℤ, Bool, true, ◌&&◌, nat_lt, Option, Some, None}
use Rattle.std.specs.Str.{is_utf8}
use Rattle.rdf_meaning.specs.Terms.{RdfTerm}
use Rattle.rdf_value_meaning.specs.Values.{value_of}
use Rattle.table_meaning.specs.Ints.{is_wide_int}
use Rattle.query_meaning.specs.declared.expression.ValueExpr.{ValueExpr}
use Rattle.query_meaning.specs.declared.expression.TruthExpr.{TruthExpr}
use Rattle.query_eval_meaning.specs.Mapping.{width}
use Rattle.sql_gen_filter_meaning.specs.Leaves.{value_passes, truth_passes}

-- it has columns of its own
abbrev pub is_variable : ℕ → Bool
is_variable v = nat_lt v width

abbrev pub is_written_number : Option ℤ → Bool
is_written_number None = true
is_written_number (Some n) = is_wide_int n

-- its texts are UTF-8, and its value is an int of the dialect
abbrev pub is_written_term : RdfTerm → Bool
is_written_term t = is_utf8 t.text && (is_utf8 t.aux && is_written_number (value_of t))

-- each variable is one that there is, and each constant can be written
abbrev pub is_written_value : ValueExpr → Bool
is_written_value = value_passes is_variable is_written_term

abbrev pub is_written : TruthExpr → Bool
is_written = truth_passes is_variable is_written_term
