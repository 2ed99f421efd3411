-- STR, LANG and DATATYPE (SPARQL 1.1 Query, sections 17.4.2.5 to 17.4.2.7) in a chain of any length, as columns of bounded size.
use Rattle.std.specs.Prelude.{ℕ, List, [], ◌∷◌, pos}
use Rattle.rdf_meaning.specs.declared.text.KnownDatatype.TheVariants.{String}
use Rattle.rdf_meaning.specs.Known.{known_bytes}
use Rattle.table_meaning.specs.declared.kind.Kind.TheVariants as kind
use Rattle.sql_meaning.specs.declared.expression.SqlExpr.{SqlExpr}
use Rattle.sql_meaning.specs.declared.expression.SqlExpr.TheVariants as sql
use Rattle.query_meaning.specs.declared.expression.ValueExpr.{ValueExpr, fold-ValueExpr}
use Rattle.query_meaning.specs.declared.expression.ValueExpr.TheOpen as value
use Rattle.query_meaning.specs.declared.expression.ValueExpr.TheOpen.{ValueExpr-F}
use Rattle.query_eval_meaning.specs.Expressions.{lang_string}
use Rattle.sql_gen_filter_meaning.specs.declared.given.Accepted.{Accepted}
use Rattle.sql_gen_filter_meaning.specs.declared.given.Accepted.TheVariants.{NotBlank, Literals}
use Rattle.sql_gen_filter_meaning.specs.declared.given.SourceText.{SourceText}
use Rattle.sql_gen_filter_meaning.specs.declared.given.SourceText.TheVariants.{Own, Tag, Datatype, Empty, StringType}
use Rattle.sql_gen_filter_meaning.specs.declared.given.Given.{Given}
use Rattle.sql_gen_filter_meaning.specs.declared.given.Given.TheVariants.{Itself, PlainString, Iri, Never}
use Rattle.sql_gen_filter_meaning.specs.Columns.{ValueSql, variable_value, constant_value, error_value, branch, when, class_is, literal_sql}

-- ---- one more function

-- the text of a string or an IRI is its own
abbrev pub after_str : Given → Given
after_str Itself = PlainString NotBlank Own
after_str (PlainString which text) = PlainString which text
after_str (Iri which text) = PlainString which text
after_str Never = Never

-- a plain string has the empty tag; an IRI is no literal
abbrev pub after_lang : Given → Given
after_lang Itself = PlainString Literals Tag
after_lang (PlainString which text) = PlainString which Empty
after_lang (Iri which text) = Never
after_lang Never = Never

-- a plain string has the type xsd:string; an IRI is no literal
abbrev pub after_datatype : Given → Given
after_datatype Itself = Iri Literals Datatype
after_datatype (PlainString which text) = Iri which StringType
after_datatype (Iri which text) = Never
after_datatype Never = Never

-- ---- the columns

abbrev pub accepted_sql : Accepted → ValueSql → SqlExpr
accepted_sql NotBlank a = sql.Less (sql.Int (pos 1)) a.class
accepted_sql Literals a = literal_sql a

-- one expression for tagged literals, another for other terms
abbrev pub if_tagged : ValueSql → SqlExpr → SqlExpr → SqlExpr
if_tagged a e f = sql.Case (branch (class_is a.class 6) e ∷ []) f

abbrev pub source_sql : SourceText → ValueSql → SqlExpr
source_sql Own a = a.text
source_sql Tag a = if_tagged a a.aux (sql.Text [])
source_sql Datatype a = if_tagged a (sql.Text lang_string) a.aux
source_sql Empty a = sql.Text []
source_sql StringType a = sql.Text (known_bytes String)

-- a term of this class, with this text and this second text, where a test is true; else an error
abbrev pub made_value : SqlExpr → ℕ → SqlExpr → List ℕ → ValueSql
made_value test class text aux = record {
  class = when test (sql.Int (pos class)) kind.Int;
  number = sql.Null kind.Int;
  text = when test text kind.Text;
  aux = when test (sql.Text aux) kind.Text;
}

-- what a chain gives of the value at its beginning
abbrev pub given_value : Given → ValueSql → ValueSql
given_value Itself a = a
given_value (PlainString which text) a = made_value (accepted_sql which a) 5 (source_sql text a) (known_bytes String)
given_value (Iri which text) a = made_value (accepted_sql which a) 2 (source_sql text a) []
given_value Never a = error_value

-- ---- whole chains

-- the value at the beginning, and what the functions make of it
pub record Chain : Type 0 where
  pub start : ValueSql
  pub given : Given

abbrev pub chain_step : ValueExpr-F Chain → Chain
chain_step (value.Var v) = record { start = variable_value v; given = Itself }
chain_step (value.Const t) = record { start = constant_value t; given = Itself }
chain_step (value.Str e) = record { start = e.start; given = after_str e.given }
chain_step (value.Lang e) = record { start = e.start; given = after_lang e.given }
chain_step (value.Datatype e) = record { start = e.start; given = after_datatype e.given }

abbrev pub chain_of : ValueExpr → Chain
chain_of = fold-ValueExpr Chain chain_step

abbrev pub chain_value : Chain → ValueSql
chain_value c = given_value c.given c.start

abbrev pub value_sql : ValueExpr → ValueSql
value_sql e = chain_value (chain_of e)
