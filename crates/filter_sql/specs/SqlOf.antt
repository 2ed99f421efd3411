-- The SQL of a truth expression, of which the constants and variables can be written.
use Rattle.std.specs.Prelude.{◌≡◌, true}
use Rattle.query_meaning.specs.declared.expression.TruthExpr.{TruthExpr}
use Rattle.sql_meaning.specs.declared.expression.SqlExpr.{SqlExpr}
use Rattle.sql_gen_filter_meaning.specs.Filters.{filter_sql}
use Rattle.sql_gen_filter_form_laws.specs.Written.{is_written}

pub record IsSqlOf (x : SqlExpr) (e : TruthExpr) : Type 0 where
  pub sql : x ≡ filter_sql e
  pub written : is_written e ≡ true
