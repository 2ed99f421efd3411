-- Truth expressions as SQL (SPARQL 1.1 Query, section 17): true, false, or null for an error.
use Rattle.std.specs.Prelude.{map}
use Rattle.sql_meaning.specs.declared.expression.SqlExpr.{SqlExpr}
use Rattle.sql_meaning.specs.declared.expression.SqlExpr.TheVariants as sql
use Rattle.query_meaning.specs.declared.expression.TruthExpr.{TruthExpr, fold-TruthExpr}
use Rattle.query_meaning.specs.declared.expression.TruthExpr.TheOpen as truth
use Rattle.query_meaning.specs.declared.expression.TruthExpr.TheOpen.{TruthExpr-F}
use Rattle.sql_gen_step_laws.specs.StepSelects.{every}
use Rattle.sql_gen_filter_meaning.specs.Chains.{value_sql}
use Rattle.sql_gen_filter_meaning.specs.Tests.{some_of, same_sql, equal_sql, compare_sql, kind_sql, effective_sql, bound_sql}

abbrev pub filter_sql_step : TruthExpr-F SqlExpr → SqlExpr
filter_sql_step (truth.Value e) = effective_sql (value_sql e)
filter_sql_step (truth.Bound v) = bound_sql v
filter_sql_step (truth.Compare c a b) = compare_sql c (value_sql a) (value_sql b)
filter_sql_step (truth.OneOf e es) = some_of (map (λ d. equal_sql (value_sql e) (value_sql d)) es)
filter_sql_step (truth.SameTerm a b) = same_sql (value_sql a) (value_sql b)
filter_sql_step (truth.Is t e) = kind_sql t (value_sql e)
filter_sql_step (truth.Not e) = sql.Not e
filter_sql_step (truth.All es) = every es
filter_sql_step (truth.Any es) = some_of es

abbrev pub filter_sql : TruthExpr → SqlExpr
filter_sql = fold-TruthExpr SqlExpr filter_sql_step
