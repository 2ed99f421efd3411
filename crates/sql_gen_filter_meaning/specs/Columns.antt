-- A value expression as four columns of SQL: class, number, text, and tag or datatype (this project's own).
-- An error is a null in all four; so a null class tells an error.
use Rattle.std.specs.Prelude.{ℕ, ℤ, [], ◌∷◌, Option, Some, None, pos}
use Rattle.rdf_meaning.specs.Terms.{RdfTerm}
use Rattle.rdf_value_meaning.specs.Values.{class_of, value_of}
use Rattle.table_meaning.specs.declared.kind.Kind.{Kind}
use Rattle.table_meaning.specs.declared.kind.Kind.TheVariants as kind
use Rattle.sql_meaning.specs.declared.expression.SqlExpr.{SqlExpr}
use Rattle.sql_meaning.specs.declared.expression.SqlExpr.TheVariants as sql
use Rattle.sql_meaning.specs.declared.expression.Branch.{Branch}
use Rattle.sql_gen_term_laws.specs.TermTable.{class_name, number_name, text_name, aux_name, term_alias}

pub record ValueSql : Type 0 where
  pub class : SqlExpr
  pub number : SqlExpr
  pub text : SqlExpr
  pub aux : SqlExpr

-- the columns of a variable's term
abbrev pub variable_value : ℕ → ValueSql
variable_value v = record {
  class = sql.Name (term_alias v) class_name;
  number = sql.Name (term_alias v) number_name;
  text = sql.Name (term_alias v) text_name;
  aux = sql.Name (term_alias v) aux_name;
}

abbrev pub number_sql : Option ℤ → SqlExpr
number_sql None = sql.Null kind.Int
number_sql (Some n) = sql.Int n

abbrev pub constant_value : RdfTerm → ValueSql
constant_value t = record {
  class = sql.Int (pos (class_of t));
  number = number_sql (value_of t);
  text = sql.Text t.text;
  aux = sql.Text t.aux;
}

abbrev pub error_value : ValueSql
error_value = record {
  class = sql.Null kind.Int;
  number = sql.Null kind.Int;
  text = sql.Null kind.Text;
  aux = sql.Null kind.Text;
}

abbrev pub branch : SqlExpr → SqlExpr → Branch
branch t v = record { test = t; value = v }

-- an expression where a test is true, else a null
abbrev pub when : SqlExpr → SqlExpr → Kind → SqlExpr
when t e k = sql.Case (branch t e ∷ []) (sql.Null k)

-- a test of a class
abbrev pub class_is : SqlExpr → ℕ → SqlExpr
class_is c n = sql.Equal c (sql.Int (pos n))

-- the classes of literals are above 2
abbrev pub literal_sql : ValueSql → SqlExpr
literal_sql a = sql.Less (sql.Int (pos 2)) a.class
